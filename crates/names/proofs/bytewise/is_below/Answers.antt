use Rattle.std.proofs.Common.{◌≡◌, eqb, refl, sym, ap, ◌∙◌}
use Rattle.std.specs.declared.cmp.Ordering.{Ordering}
use Rattle.std.specs.declared.cmp.Ordering.TheVariants.{Less, Equal, Greater}
use Rattle.std.specs.Ordering.{is_lt}
use Rattle.names.specs.Order.{order_number}
use Rattle.names.specs.Laws.Names.{below_order}
use Rattle.names.proofs.bytewise.is_below.Goals as goal

by_number : (o : Ordering) → is_lt o ≡ eqb (order_number o) 0
by_number Less = refl
by_number Equal = refl
by_number Greater = refl

pub returns : goal.returns
returns c = c.is_lt.ensures ∙ by_number c.compare.result ∙ ap (λ n. eqb n 0) c.compare.ensures ∙ sym (below_order c.args.a.now c.args.b.now)
