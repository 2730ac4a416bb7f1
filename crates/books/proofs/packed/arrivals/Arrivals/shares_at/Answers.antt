use Rattle.std.proofs.Common.{rules, ◌≡◌, ◌∙◌, ◌==◌, cond, sum_by, nat_eq}
use Rattle.books.proofs.Arranged.{shares_each}
use Rattle.books.proofs.packed.arrivals.Arrivals.shares_at.Goals as goal

pub returns : goal.returns
returns c =
    let e : c.sum.result ≡ sum_by (λ o. cond (nat_eq o.price c.args.price) o.shares 0) c.args.self.now = search rules in
    e ∙ shares_each c.args.price c.args.self.now
