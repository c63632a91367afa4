use Rattle.std.proofs.Common.{◌≡◌, length, rules, tests}
use Rattle.std.proofs.lemmas.Iterator.{cases_from_any, YieldsList-from_slice}
use Rattle.paths.proofs.Memories.{Covers, covered_never}
use Rattle.paths.proofs.memory.is_known.Goals as goal

pub returns : goal.returns
returns c =
    let noted = c.args.failures.now.noted in
    let long : length noted ≡ 32 = search rules in
    let found = cases_from_any _ _ c.any.result (Covers c.args.search.now.allowed c.args.search.now.person) (λ _. Unit {0}) c.any.ensures.ran (YieldsList-from_slice noted cc) (λ x q h. search (rules, tests)) (λ x q h. search (rules, tests)) in
    λ e n t k failed. covered_never n t c.args.search.now.allowed c.args.search.now.person k c.args.failures.now c.any.result _ long found e failed
