use Rattle.std.proofs.Common.{◌≡◌, ◌<◌, get_or, Some, sym, ap, ◌∙◌, arith, get_or-take}
use Rattle.std.proofs.lemmas.List.{length-take}
use Rattle.numbered.proofs.Laws.{row_at, row_none}
use Rattle.register.specs.Held.{held, numbers}
use Rattle.register.proofs.table.Register.get.Goals as goal

pub returns : goal.returns
returns c =
    let r = c.args.self.now in
    let i = c.in_ok-i.i in
    let row = row_at numbers c.args.n 0 i (held r) _ (sym c.find.ensures.is ∙ c.in_ok-i.was) in
    let at : row.0 ≡ i = omega (arith, row.1) in
    let used : i < r.count = omega (arith, c.in_ok-i.ensures.within, length-take r.count r.rows) in
    ap (λ g. Some g) (sym (get_or-take r.count r.rows i _ used)) ∙ sym (row.2 ∙ ap (λ k. Some (get_or (held r) k _)) at)

pub returns-in_err-i : goal.returns-in_err-i
returns-in_err-i c = c.from_residual.ensures ∙ sym (row_none numbers c.args.n 0 (held c.args.self.now) (sym c.find.ensures.is ∙ c.in_err-i.was))
