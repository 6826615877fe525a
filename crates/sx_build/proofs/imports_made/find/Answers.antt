use Rattle.std.proofs.Common.{◌≡◌, Bool, true, false, map, sym, ap, ◌∙◌}
use Rattle.sx_build.specs.declared.made.Made.{Made}
use Rattle.sx_build.specs.Buildings.{mades_view}
use Rattle.sx_build.proofs.Finding.{none_next}
use Rattle.sx_build.proofs.Imported.{name_at}
use Rattle.sx_build.proofs.imports_made.find.Goals as goal

pub loop-i-preserved : goal.loop-i-preserved
loop-i-preserved c =
    let mades = c.args.mades.now in
    let i = c.loop-i.i in
    let made = c.index-mades-i.result in
    none_next (map (λ m. m.name) (mades_view mades)) c.args.name.now i c.loop-i.invariant
    (λ same.
    let named : made.name ≡ c.args.name.now =
    ap (λ (m : Made). m.name) c.index-mades-i.is
    ∙ sym (name_at mades i made c.args.name.now c.loop-i-test.true) ∙ same in
    let yes = c.same.ensures.1 named in
    let no = c.if-same.false in
    let at : ◌≡◌ {A = Bool} false true = sym no ∙ yes in cc)
