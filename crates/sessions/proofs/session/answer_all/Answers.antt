use Rattle.std.proofs.Common.{◌≡◌, ◌<◌, length, string_bytes, sym, arith, rules}
use Rattle.frames.proofs.Records.{took}
use Rattle.sessions.proofs.Walk.{sofar_end, stop_text, more_text}
use Rattle.sessions.proofs.session.answer_all.Goals as goal

pub returns-in_default : goal.returns-in_default
returns-in_default g c =
    let h : 0 < length c.loop-rest.rest.now = search rules in
    stop_text g.L.Language.size g.L.Language.says c.args.cabinet.now c.args.end c.args.commands.now c.loop-rest.cabinet c.loop-rest.count c.loop-rest.rest.now (string_bytes c.loop-rest.text) c.loop-rest.invariant
    (string_bytes c.push_str.new.self) c.as_str.result.now (string_bytes c.in_ok-line.line) c.at-fault.result
    c.in_ok-push_str.ensures.bytes c.as_str.ensures.value c.in_ok-line.ensures c.at-fault.ensures h c.in_default.ensures

pub loop-rest-smaller : goal.loop-rest-smaller
loop-rest-smaller g c =
    let t = took c.loop-rest.rest.now c.in-Some.record.value.now c.in-Some.record.rest.now (sym c.in-Some.ensures) in
    let m = t.shorter in
    omega (arith, m)

pub loop-rest-preserved : goal.loop-rest-preserved
loop-rest-preserved g c =
    more_text g.L.Language.size g.L.Language.says c.args.cabinet.now c.args.end c.args.commands.now c.loop-rest.cabinet c.loop-rest.count c.loop-rest.rest.now (string_bytes c.loop-rest.text) c.loop-rest.invariant
    c.in-Some.record.value.now c.in-Some.record.rest.now (string_bytes c.push_str-in-loop-rest.new.self) c.as_str-in-loop-rest.result.now (string_bytes c.in_ok-line-2.line) c.answer.new.cabinet
    c.in_ok-push_str-2.ensures.bytes c.as_str-in-loop-rest.ensures.value c.in_ok-line-2.ensures.written c.in-Some.ensures c.in_ok-line-2.ensures.left

pub returns : goal.returns
returns g c =
    let z : length c.loop-rest.rest.now ≡ 0 = search rules in
    sofar_end g.L.Language.size g.L.Language.says c.args.cabinet.now c.args.end c.args.commands.now c.loop-rest.cabinet c.loop-rest.count c.loop-rest.rest.now (string_bytes c.loop-rest.text) c.loop-rest.invariant z
