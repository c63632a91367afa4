use Rattle.std.proofs.Common.{◌≡◌, ◌<◌, min, length, refl, ap, ◌∙◌, subst, arith, length-take, get_or-take}
use Rattle.controller.specs.declared.run.Call.{Call}
use Rattle.controller.specs.Cabinets.{reply, Follows}
use Rattle.controller.specs.Runs.{asked, shown}
use Rattle.plain.proofs.Gathered.{record_laws}
use Rattle.controller.proofs.Whole.{call_more, finished}
use Rattle.controller.proofs.run.replay.Goals as goal

pub loop-i-init : goal.loop-i-init
loop-i-init g c = record { same = refl; held = c.new-cabinet.ensures.held; told = refl; rest = refl }

pub loop-i-preserved : goal.loop-i-preserved
loop-i-preserved g c =
    let n = c.min-n.result in
    let i = c.loop-i.i in
    let l = c.loop-i-test.true in
    let li : i < n = omega (arith, l, length-take n c.args.calls.now) in
    let lc : i < length c.args.calls.now = omega (arith, li) in
    let lw : i < length c.loop-i.answers = omega (arith, li) in
    let size = g.L.Language.size in
    let says = g.L.Language.says in
    let e = get_or-take n c.args.calls.now i _ li in
    call_more size says _ c.args.calls.now _ i c.loop-i.cabinet c.apply.new.self c.loop-i.answers _ c.apply.result c.loop-i.invariant lc lw
    (c.apply.ensures.is ∙ ap (λ (k : Call). shown (reply size says c.loop-i.cabinet (asked k))) e)
    (subst (λ (k : Call). Follows size says c.loop-i.cabinet (asked k) c.apply.new.self) e c.apply.ensures.after)

pub returns : goal.returns
returns g c =
    let n : c.loop-i.i ≡ min (length c.args.calls.now) (length c.args.answers.now) = omega (arith, length-take c.min-n.result c.args.calls.now) in
    record {
      language = c.loop-i.invariant.same ∙ c.new-cabinet.ensures.language;
      promise = finished g.L.Language.size g.L.Language.says g.L.Language.lawful _ _ c.new-cabinet.ensures.language c.args.calls.now c.args.answers.now c.loop-i.answers c.loop-i.i c.loop-i.cabinet c.loop-i.invariant n;
      laws = record_laws;
    }
