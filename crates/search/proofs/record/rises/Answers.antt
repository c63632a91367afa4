use Rattle.std.proofs.Common.{ltb, rules, tests}
use Rattle.std.proofs.lemmas.Fn.{always_returns_same}
use Rattle.grants.specs.declared.Grant.{Grant}
use Rattle.search.proofs.Places.{rises_is}
use Rattle.search.proofs.record.rises.Goals as goal

pub returns : goal.returns
returns c =
    rises_is c.args.grants.now c.is_sorted_by.result
    (c.is_sorted_by.ensures.cases (λ (x y : Grant). ltb x.number y.number) (always_returns_same _ _ _ (λ a r f' k. search (rules, tests))))
