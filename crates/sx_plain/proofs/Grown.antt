-- Plain tables with one more entry.
use Rattle.std.proofs.Common.{◌≡◌, ℕ, Bool, true, false, List, length, Some, if◌then◌else◌, refl, sym, ◌∙◌, subst, ap}
use Rattle.std.specs.Prelude.{slice_get, ◌==◌}
use Rattle.std.proofs.lemmas.Bool.{eqb-true}
use Rattle.sx_term.specs.Sorts.{Shape}
use Rattle.sx_term.specs.Untyped.{IsUntypedSort}
use Rattle.sx_plain.specs.Plain.{Body, Table, image}
use Rattle.sx_plain.specs.Tables.{IsBodyFor, HasBodies}
use Rattle.sx_plain.specs.Adds.{with_entry}
use Rattle.sx_plain.specs.Laws.{BodiesStaySorted}
use Rattle.sx_plain.proofs.Tables.{sorted-image}
use Rattle.sx_plain.proofs.AddLaws.{covered}

-- what is known of an entry of the table that has one more
with-one : (base shapes : List Shape) (old : Table) (label : ℕ) (shape : Shape) (body : Body) → HasBodies base shapes old → slice_get shapes label ≡ Some shape → IsUntypedSort shape.sort →
    IsBodyFor base shape body → HasBodies base shapes (with_entry old label body)
with-one base shapes old label shape body known at plain fits other found e = go (other == label) refl e
  where
    go : (b : Bool) → (other == label) ≡ b → (if b then Some body else old other) ≡ Some found →
        (s : Shape) × (slice_get shapes other ≡ Some s) × IsUntypedSort s.sort × IsBodyFor base s found
    go true t e =
        let q : body ≡ found = cc in
        (shape, ap (slice_get shapes) (eqb-true other label t) ∙ at, plain, subst (λ (x : Body). IsBodyFor base shape x) q fits)
    go false t e = known other found e

pub bodies_stay_sorted : BodiesStaySorted
bodies_stay_sorted base shapes old new label shape t begins known at plain sorted added other found e =
    let body : Body = record { arity = length shape.kids; flat = image old t } in
    let fits : IsBodyFor base shape body = record {
      many = refl;
      sorted = sorted-image base shapes old shape.kids begins known t shape.sort sorted (covered (length base) old t added.1);
    } in
    with-one base shapes old label shape body known at plain fits other found (sym (added.5 other) ∙ e)
