use Rattle.std.proofs.Common.{◌≡◌, ◌+◌, ◌*◌, [], get_or, drop, sym, ap, ◌∙◌, arith}
use Rattle.std.proofs.lemmas.List.{drop_all}
use Rattle.states.specs.declared.report.Report.{Report}
use Rattle.commands.specs.Steps.{unknown, noted}
use Rattle.commands.proofs.Entries.{told_by, reported_by, told_next}
use Rattle.commands.proofs.values.report_of.Goals as goal

pub loop-v-init : goal.loop-v-init
loop-v-init c =
    let d = c.default-report.ensures in
    let e : c.default-report.result ≡ unknown = λ i. record { time = d.0 i; day = d.1.0 i; groups = d.1.1.0 i; path = d.1.1.1.0 i; level = d.1.1.1.1.0 i; status = d.1.1.1.1.1 i } in
    (λ i. told_by (e i) (c.as_chunks.ensures.front i)) ∙ reported_by unknown c.args.value.now

pub loop-v-preserved : goal.loop-v-preserved
loop-v-preserved c =
    let es = c.as_chunks.result.0.now in
    let i = c.loop-v.v-index in
    let e = get_or c.as_chunks.result.0.now c.loop-v.v-index [] in
    let n : c.from_be_bytes.result ≡ get_or (get_or c.as_chunks.result.0.now c.loop-v.v-index []) 1 0 * 256 + get_or (get_or c.as_chunks.result.0.now c.loop-v.v-index []) 2 0 = omega arith in
    ap (λ (r : Report). told_by r (drop (i + 1) es)) (c.note.ensures ∙ ap (noted c.loop-v.report (get_or e 0 0)) n)
    ∙ sym (told_next c.loop-v.report es i c.loop-v-test.true) ∙ c.loop-v.invariant

pub returns : goal.returns
returns c = ap (told_by c.loop-v.report) (sym (drop_all c.loop-v.v-index c.as_chunks.result.0.now c.loop-v-test.false)) ∙ c.loop-v.invariant
