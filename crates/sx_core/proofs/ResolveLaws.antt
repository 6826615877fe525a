-- Constructors and forms, one after another.
use Rattle.std.proofs.Common.{◌≡◌, ℕ, zero, suc, ◌+◌, ◌<◌, ◌≤◌, List, [], ◌∷◌, ◌++◌, length, Bool, true, false, Some, get_or, take, sym, refl, ap, ◌∙◌, subst, arith}
use Rattle.std.specs.Prelude.{slice_get}
use Rattle.sx_term.specs.declared.sort.Sort.{Sort}
use Rattle.sx_term.specs.Sorts.{Shape}
use Rattle.sx_term.specs.declared.role.Role.{Role}
use Rattle.sx_rules.specs.declared.rule.Place.{Place}
use Rattle.sx_rules.specs.Views.{FormData}
use Rattle.sx_core.specs.File.{SortRow, ConRow, PlaceRow, FormRow}
use Rattle.sx_core.specs.Stated.{NamesSort, NameSorts, MayHave, MayHaveSort, AreStatedPlaces}
use Rattle.sx_core.specs.Stated.{AreCons, AreForms, subject_count, subject_count_when}
use Rattle.sx_lines.specs.Distinct.{AreTextsDistinct}
use Rattle.sx_term.specs.Untyped.{IsUntypedSort, AreUntypedSorts}
use Rattle.sx_rules.specs.Views.{is_sub}
use Rattle.sx_core.specs.Resolving.{sort_names, IsConOf, IsPlaceOf, IsFormOf}
use Rattle.std.proofs.lemmas.Bool.{false≢true}
use Rattle.std.proofs.lemmas.Option.{slice_get-get_or}
use Rattle.std.proofs.lemmas.List.{take_all}
use Rattle.std.specs.Prelude.{IsTrue, ◌↔◌}
use Rattle.sx_core.proofs.SortLaws.{take_one, some_same, none_some, sort_same, sorts_same}

pub untyped_snoc : (ss : List Sort) (s : Sort) → AreUntypedSorts ss → IsUntypedSort s → AreUntypedSorts (ss ++ s ∷ [])
untyped_snoc [] s h k = (k, tt)
untyped_snoc (t ∷ ss) s h k = (h.0, untyped_snoc ss s h.1 k)

pub untyped_at : (ss : List Sort) (i : ℕ) (s : Sort) → AreUntypedSorts ss → slice_get ss i ≡ Some s → IsUntypedSort s
untyped_at [] i s h e = absurd (none_some s e)
untyped_at (t ∷ ss) zero s h e = subst IsUntypedSort (some_same t s e) h.0
untyped_at (t ∷ ss) (suc i) s h e = untyped_at ss i s h.1 e

pub untyped_differs : (ss : List Sort) (i : ℕ) (d : Sort) (r : Bool) → i < length ss → r ≡ false → (IsTrue r ↔ IsUntypedSort (get_or ss i d)) → IsTrue false ↔ AreUntypedSorts ss
untyped_differs ss i d r lt e w = (
  (λ t. let q : false ≡ true = t in absurd (false≢true q)),
  λ h. sym e ∙ w.1 (untyped_at ss i (get_or ss i d) h (slice_get-get_or ss i d lt)),
)

pub untyped_more : (ss : List Sort) (i : ℕ) (d : Sort) (r : Bool) → i < length ss → r ≡ true → (IsTrue r ↔ IsUntypedSort (get_or ss i d)) → AreUntypedSorts (take i ss) → AreUntypedSorts (take (i + 1) ss)
untyped_more ss i d r lt e w h = subst AreUntypedSorts (sym (take_one ss i (get_or ss i d) (slice_get-get_or ss i d lt))) (untyped_snoc (take i ss) (get_or ss i d) h (w.0 e))

pub untyped_all : (ss : List Sort) (i : ℕ) → length ss ≤ i → AreUntypedSorts (take i ss) → IsTrue true ↔ AreUntypedSorts ss
untyped_all ss i le h = ((λ t. subst AreUntypedSorts (take_all i ss le) h), λ k. refl)

pub subjects_snoc : (ps : List Place) (p : Place) → subject_count (ps ++ p ∷ []) ≡ subject_count ps + subject_count_when (is_sub p.role)
subjects_snoc [] p = omega arith
subjects_snoc (q ∷ ps) p = let e = subjects_snoc ps p in omega arith

module _ (rows : List SortRow) where
  pub con_same : (con : ConRow) (a b : Shape) → AreTextsDistinct (sort_names rows) → IsConOf rows con a → IsConOf rows con b → a ≡ b
  con_same con a b d h k =
      ap (λ (x : Sort). record { sort = x; kids = a.kids }) (sort_same rows con.sort a.sort b.sort d h.sort k.sort)
      ∙ ap (λ (x : List Sort). record { sort = b.sort; kids = x }) (sorts_same rows con.kids a.kids b.kids d h.kids k.kids)

  pub cons_snoc : (cs : List ConRow) (ns : List (List ℕ)) (ss : List Shape) (c : ConRow) (n : List ℕ) (s : Shape) → AreCons rows cs ns ss → c.name ≡ n → IsConOf rows c s → AreCons rows (cs ++ c ∷ []) (ns ++ n ∷ []) (ss ++ s ∷ [])
  cons_snoc [] [] [] c n s h e k = (e, k.sort, k.kids, k.may, tt)
  cons_snoc [] [] (t ∷ ss) c n s h e k = absurd h
  cons_snoc [] (m ∷ ns) ss c n s h e k = absurd h
  cons_snoc (x ∷ cs) [] ss c n s h e k = absurd h
  cons_snoc (x ∷ cs) (m ∷ ns) [] c n s h e k = absurd h
  cons_snoc (x ∷ cs) (m ∷ ns) (t ∷ ss) c n s h e k = (h.0, h.1, h.2, h.3, cons_snoc cs ns ss c n s h.4 e k)

  pub cons_at : (cs : List ConRow) (ns : List (List ℕ)) (ss : List Shape) (i : ℕ) (c : ConRow) → AreCons rows cs ns ss → slice_get cs i ≡ Some c → (s : Shape) × IsConOf rows c s
  cons_at [] ns ss i c h e = absurd (none_some c e)
  cons_at (x ∷ cs) [] ss i c h e = absurd h
  cons_at (x ∷ cs) (m ∷ ns) [] i c h e = absurd h
  cons_at (x ∷ cs) (m ∷ ns) (t ∷ ss) zero c h e = (t, subst (λ (y : ConRow). IsConOf rows y t) (some_same x c e) (record { sort = h.1; kids = h.2; may = h.3 }))
  cons_at (x ∷ cs) (m ∷ ns) (t ∷ ss) (suc i) c h e = cons_at cs ns ss i c h.4 e

  pub cons_same : (cs : List ConRow) (ns ms : List (List ℕ)) (ss ts : List Shape) → AreTextsDistinct (sort_names rows) → AreCons rows cs ns ss → AreCons rows cs ms ts → (ns ≡ ms) × (ss ≡ ts)
  cons_same [] [] [] [] [] d h k = (refl, refl)
  cons_same [] [] [] [] (t ∷ ts) d h k = absurd k
  cons_same [] [] (m ∷ ms) [] ts d h k = absurd k
  cons_same [] [] ms (s ∷ ss) ts d h k = absurd h
  cons_same [] (n ∷ ns) ms ss ts d h k = absurd h
  cons_same (c ∷ cs) [] ms ss ts d h k = absurd h
  cons_same (c ∷ cs) (n ∷ ns) ms [] ts d h k = absurd h
  cons_same (c ∷ cs) (n ∷ ns) [] (s ∷ ss) ts d h k = absurd k
  cons_same (c ∷ cs) (n ∷ ns) (m ∷ ms) (s ∷ ss) [] d h k = absurd k
  cons_same (c ∷ cs) (n ∷ ns) (m ∷ ms) (s ∷ ss) (t ∷ ts) d h k =
      let q = cons_same cs ns ms ss ts d h.4 k.4 in
      let e = con_same c s t d (record { sort = h.1; kids = h.2; may = h.3 }) (record { sort = k.1; kids = k.2; may = k.3 }) in
      (ap (λ r. r ∷ ns) (sym h.0 ∙ k.0) ∙ ap (λ r. m ∷ r) q.0, ap (λ r. r ∷ ss) e ∙ ap (λ r. t ∷ r) q.1)

  pub place_same : (row : PlaceRow) (a b : Place) → AreTextsDistinct (sort_names rows) → IsPlaceOf rows row a → IsPlaceOf rows row b → a ≡ b
  place_same row a b d h k =
      ap (λ (x : Role). record { role = x; sort = a.sort }) (sym h.role ∙ k.role)
      ∙ ap (λ (x : Sort). record { role = b.role; sort = x }) (sort_same rows row.sort a.sort b.sort d h.sort k.sort)

  pub places_snoc : (rs : List PlaceRow) (ps : List Place) (r : PlaceRow) (p : Place) → AreStatedPlaces rows rs ps → IsPlaceOf rows r p → AreStatedPlaces rows (rs ++ r ∷ []) (ps ++ p ∷ [])
  places_snoc [] [] r p h k = (k.role, k.sort, k.may, tt)
  places_snoc [] (q ∷ ps) r p h k = absurd h
  places_snoc (x ∷ rs) [] r p h k = absurd h
  places_snoc (x ∷ rs) (q ∷ ps) r p h k = (h.0, h.1, h.2, places_snoc rs ps r p h.3 k)

  pub places_at : (rs : List PlaceRow) (ps : List Place) (i : ℕ) (r : PlaceRow) → AreStatedPlaces rows rs ps → slice_get rs i ≡ Some r → (p : Place) × IsPlaceOf rows r p
  places_at [] ps i r h e = absurd (none_some r e)
  places_at (x ∷ rs) [] i r h e = absurd h
  places_at (x ∷ rs) (q ∷ ps) zero r h e = (q, subst (λ (y : PlaceRow). IsPlaceOf rows y q) (some_same x r e) (record { role = h.0; sort = h.1; may = h.2 }))
  places_at (x ∷ rs) (q ∷ ps) (suc i) r h e = places_at rs ps i r h.3 e

  pub places_same : (rs : List PlaceRow) (ps qs : List Place) → AreTextsDistinct (sort_names rows) → AreStatedPlaces rows rs ps → AreStatedPlaces rows rs qs → ps ≡ qs
  places_same [] [] [] d h k = refl
  places_same [] [] (q ∷ qs) d h k = absurd k
  places_same [] (p ∷ ps) qs d h k = absurd h
  places_same (r ∷ rs) [] qs d h k = absurd h
  places_same (r ∷ rs) (p ∷ ps) [] d h k = absurd k
  places_same (r ∷ rs) (p ∷ ps) (q ∷ qs) d h k =
      let e = place_same r p q d (record { role = h.0; sort = h.1; may = h.2 }) (record { role = k.0; sort = k.1; may = k.2 }) in
      ap (λ x. x ∷ ps) e ∙ ap (λ x. q ∷ x) (places_same rs ps qs d h.3 k.3)

  pub form_same : (row : FormRow) (a b : FormData) → AreTextsDistinct (sort_names rows) → IsFormOf rows row a → IsFormOf rows row b → a ≡ b
  form_same row a b d h k =
      ap (λ (x : List ℕ). record { name = x; places = a.places }) (sym h.name ∙ k.name)
      ∙ ap (λ (x : List Place). record { name = b.name; places = x }) (places_same row.places a.places b.places d h.places k.places)

  pub forms_snoc : (rs : List FormRow) (fs : List FormData) (r : FormRow) (f : FormData) → AreForms rows rs fs → IsFormOf rows r f → AreForms rows (rs ++ r ∷ []) (fs ++ f ∷ [])
  forms_snoc [] [] r f h k = (k.name, k.places, k.one, tt)
  forms_snoc [] (g ∷ fs) r f h k = absurd h
  forms_snoc (x ∷ rs) [] r f h k = absurd h
  forms_snoc (x ∷ rs) (g ∷ fs) r f h k = (h.0, h.1, h.2, forms_snoc rs fs r f h.3 k)

  pub forms_at : (rs : List FormRow) (fs : List FormData) (i : ℕ) (r : FormRow) → AreForms rows rs fs → slice_get rs i ≡ Some r → (f : FormData) × IsFormOf rows r f
  forms_at [] fs i r h e = absurd (none_some r e)
  forms_at (x ∷ rs) [] i r h e = absurd h
  forms_at (x ∷ rs) (g ∷ fs) zero r h e = (g, subst (λ (y : FormRow). IsFormOf rows y g) (some_same x r e) (record { name = h.0; places = h.1; one = h.2 }))
  forms_at (x ∷ rs) (g ∷ fs) (suc i) r h e = forms_at rs fs i r h.3 e

  pub forms_same : (rs : List FormRow) (fs gs : List FormData) → AreTextsDistinct (sort_names rows) → AreForms rows rs fs → AreForms rows rs gs → fs ≡ gs
  forms_same [] [] [] d h k = refl
  forms_same [] [] (g ∷ gs) d h k = absurd k
  forms_same [] (f ∷ fs) gs d h k = absurd h
  forms_same (r ∷ rs) [] gs d h k = absurd h
  forms_same (r ∷ rs) (f ∷ fs) [] d h k = absurd k
  forms_same (r ∷ rs) (f ∷ fs) (g ∷ gs) d h k =
      let e = form_same r f g d (record { name = h.0; places = h.1; one = h.2 }) (record { name = k.0; places = k.1; one = k.2 }) in
      ap (λ x. x ∷ fs) e ∙ ap (λ x. g ∷ x) (forms_same rs fs gs d h.3 k.3)

module _ (rows : List SortRow) (d : AreTextsDistinct (sort_names rows)) where
  pub place_not : (row : PlaceRow) (s : Sort) → NamesSort rows row.sort s → (MayHaveSort row.role s → ⊥) → (p : Place) → IsPlaceOf rows row p → ⊥
  place_not row s h n p k =
      n (subst (λ (r : Role). MayHaveSort r s) (sym k.role) (subst (MayHaveSort p.role) (sort_same rows row.sort p.sort s d k.sort h) k.may))

  pub con_not : (con : ConRow) (s : Sort) (ks : List Sort) → NamesSort rows con.sort s → NameSorts rows con.kids ks → (MayHave s ks → ⊥) → (x : Shape) → IsConOf rows con x → ⊥
  con_not con s ks h g n x k =
      n (subst (λ (r : Sort). MayHave r ks) (sort_same rows con.sort x.sort s d k.sort h) (subst (MayHave x.sort) (sorts_same rows con.kids x.kids ks d k.kids g) k.may))

  pub form_not : (row : FormRow) (ps : List Place) → AreStatedPlaces rows row.places ps → (subject_count ps ≤ 1 → ⊥) → (f : FormData) → IsFormOf rows row f → ⊥
  form_not row ps h n f k = n (subst (λ (qs : List Place). subject_count qs ≤ 1) (places_same rows row.places f.places ps d k.places h) k.one)

one_at_most : (b : Bool) → subject_count_when b ≤ 1
one_at_most true = omega arith
one_at_most false = omega arith

pub subjects_more : (ps : List Place) (i : ℕ) (d : Place) (n m : ℕ) → i < length ps → n ≡ subject_count (take i ps) → m ≡ subject_count_when (is_sub (get_or ps i d).role) → n + m ≡ subject_count (take (i + 1) ps)
subjects_more ps i d n m lt e f =
    let q = ap subject_count (take_one ps i (get_or ps i d) (slice_get-get_or ps i d lt)) in
    let s = subjects_snoc (take i ps) (get_or ps i d) in
    omega arith

pub subjects_few : (n m i : ℕ) (b : Bool) → n ≤ i → m ≡ subject_count_when b → n + m ≤ i + 1
subjects_few n m i b h e = let k = one_at_most b in omega arith

pub cons_length : (rows : List SortRow) (cs : List ConRow) (ns : List (List ℕ)) (ss : List Shape) → AreCons rows cs ns ss → length ns ≡ length cs
cons_length rows [] [] ss h = refl
cons_length rows [] (n ∷ ns) ss h = absurd h
cons_length rows (c ∷ cs) [] ss h = absurd h
cons_length rows (c ∷ cs) (n ∷ ns) [] h = absurd h
cons_length rows (c ∷ cs) (n ∷ ns) (s ∷ ss) h = ap suc (cons_length rows cs ns ss h.4)
