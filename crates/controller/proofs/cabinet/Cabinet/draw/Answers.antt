use Rattle.std.proofs.Common.{◌≡◌, ◌-◌, ◌++◌, map, reverse, length, replicate, Ok, Err, sym, refl, ap, ◌∙◌}
use Rattle.std.proofs.lemmas.List.{length-map, length-reverse}
use Rattle.std.proofs.lemmas.Result.{err_from_is_err_and}
use Rattle.faults.specs.declared.Fault.{Fault}
use Rattle.search.specs.declared.named.Named.{Named}
use Rattle.controller.specs.declared.slip.Slip.{Slip}
use Rattle.plain.specs.Record.{World, Answer, number_of}
use Rattle.loans.specs.Hooks.{hooks}
use Rattle.ledger.specs.Ledgers.{world_with}
use Rattle.controller.specs.Cabinets.{slip_of, listed}
use Rattle.controller.proofs.Keys.{chain, slipped, by_ok, by_err, draw_named, draw_unjustified, draw_justified}
use Rattle.controller.proofs.cabinet.Cabinet.draw.Goals as goal

pub returns : goal.returns
returns g c =
    let s = c.args.self.now in
    let size = g.L.Language.size s.language in
    let says = g.L.Language.says s.language in
    let p = c.args.caller in
    let h = c.args.hook in
    let report = c.args.report.now in
    let gs = chain size says s.ledger s.loans p h report in
    let ns = reverse (map number_of gs) in
    let named = c.in_ok-named.ensures.is in
    let is = draw_named size says s.ledger s.loans p h report c.in_ok-named.named named in
    let long : length gs ≡ length ns = sym (length-reverse (map number_of gs) ∙ length-map gs number_of) in
    let so = draw_justified size says s.ledger s.loans p h report c.in_ok-named.named named c.happen.new.self c.in_ok-happen.ensures.leaves
    ∙ ap (λ (a : Answer). (world_with s.ledger (hooks c.happen.new.self), a)) (by_ok (slipped size says s.ledger s.loans p h report) _ c.in_ok-happen.ensures.is) in
    record {
      is = ap (λ (x : Slip). Ok x) c.hand_out.ensures.is ∙ (λ i. Ok (record { hook = h; person = p; length = (ap (λ (n : Named). n.length) is ∙ long) i })) ∙ sym (ap (λ (x : World × Answer). slip_of x.1) so);
      list = c.hand_out.ensures.list ∙ ap (λ (n : Named). n.numbers) is ∙ ap (λ n. ns ++ replicate (8 - n) 0) long ∙ sym (ap (λ (x : World × Answer). listed c.args.chain.now x.1) so);
      after = record { language = refl; held = sym (ap (λ (x : World × Answer). x.0) so) };
    }

pub returns-in_err-named : goal.returns-in_err-named
returns-in_err-named g c =
    let s = c.args.self.now in
    let p = err_from_is_err_and c.from_residual.result c.from_residual.ensures.1 in
    let so = draw_unjustified (g.L.Language.size s.language) (g.L.Language.says s.language) s.ledger s.loans c.args.caller c.args.hook c.args.report.now _ c.in_err-named.ensures.is in
    record {
      is = p.1 ∙ ap (λ (f : Fault). Err f) p.2 ∙ sym (ap (λ (x : World × Answer). slip_of x.1) so);
      list = sym (ap (λ (x : World × Answer). listed c.args.chain.now x.1) so);
      after = record { language = refl; held = sym (ap (λ (x : World × Answer). x.0) so) };
    }

pub returns-in_err-happen : goal.returns-in_err-happen
returns-in_err-happen g c =
    let s = c.args.self.now in
    let p = err_from_is_err_and c.from_residual-in_err-happen.result c.from_residual-in_err-happen.ensures.1 in
    let size = g.L.Language.size s.language in
    let says = g.L.Language.says s.language in
    let h = c.args.hook in
    let caller = c.args.caller in
    let report = c.args.report.now in
    let so = draw_justified size says s.ledger s.loans caller h report c.in_ok-named.named c.in_ok-named.ensures.is c.happen.new.self c.in_err-happen.ensures.leaves
    ∙ ap (λ (a : Answer). (world_with s.ledger (hooks c.happen.new.self), a)) (by_err (slipped size says s.ledger s.loans caller h report) _ _ c.in_err-happen.ensures.is) in
    record {
      is = p.1 ∙ ap (λ (f : Fault). Err f) p.2 ∙ sym (ap (λ (x : World × Answer). slip_of x.1) so);
      list = sym (ap (λ (x : World × Answer). listed c.args.chain.now x.1) so);
      after = record { language = refl; held = sym (ap (λ (x : World × Answer). x.0) so) };
    }
