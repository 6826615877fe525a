-- An accepted set with an extension after it.
use Rattle.std.proofs.Common.{◌≡◌, arith, ℕ, zero, suc, ◌+◌, ◌≤◌, List, [], ◌∷◌, ◌++◌, map, length, drop, refl, sym, ap, ◌∙◌, subst}
use Rattle.std.proofs.Math.Logic.{∥∥₁_map}
use Rattle.sx_term.specs.Sorts.{Shape}
use Rattle.sx_rules.specs.Rules.{Rule}
use Rattle.sx_rules.specs.Views.{FormData}
use Rattle.sx_plain.specs.Plain.{Table}
use Rattle.sx_rewrite.specs.declared.flat.Flat.{Flat}
use Rattle.sx_rewrite.specs.Accepted.{ExtRule, Checked, checked, rule_in, Accepted, extended_rules}
use Rattle.sx_rewrite.specs.Accepted.{IsAccepted}
use Rattle.sx_rewrite.specs.Sound.{AreSoundBy}
use Rattle.sx_rewrite.specs.Extensions.{StoredExtension, with_table, extended_by, FitsRules}
use Rattle.sx_rewrite.specs.Extensions.{without_extensions, HasGrownSoundly}
use Rattle.sx_rewrite.specs.Stored.{checked_with, checked_of, accepted_from, signature_of}
use Rattle.sx_rewrite.specs.Stored.{IsSetHeld}
use Rattle.sx_rewrite.proofs.Growing.{all-rules, accepted_sets_grow, growth_goes_on}

drop-both : (n : ℕ) (xs ys : List Rule) → n ≤ length xs → drop n (xs ++ ys) ≡ drop n xs ++ ys
drop-both zero xs ys l = refl
drop-both (suc n) [] ys l = absurd (omega (arith, l))
drop-both (suc n) (x ∷ xs) ys l = drop-both n xs ys (omega (arith, l))

length-drop : (n m : ℕ) (xs : List Rule) → length xs ≡ n + m → length (drop n xs) ≡ m
length-drop zero m xs e = omega (arith, e)
length-drop (suc n) m [] e = absurd (omega (arith, e))
length-drop (suc n) m (x ∷ xs) e = length-drop n m xs (omega (arith, e))

length-both : (rs qs : List Rule) → length (rs ++ qs) ≡ length rs + length qs
length-both [] qs = omega arith
length-both (r ∷ rs) qs = let e = length-both rs qs in omega (arith, e)

flats-both : (fs gs : List Flat) → length (fs ++ gs) ≡ length fs + length gs
flats-both [] gs = omega arith
flats-both (f ∷ fs) gs = let e = flats-both fs gs in omega (arith, e)

checked-both : (rs qs : List Rule) (fs gs : List Flat) → length rs ≡ length fs → checked_of (rs ++ qs) (fs ++ gs) ≡ checked_of rs fs ++ checked_of qs gs
checked-both [] qs [] gs e = refl
checked-both [] qs (f ∷ fs) gs e = absurd (omega (arith, e))
checked-both (r ∷ rs) qs [] gs e = absurd (omega (arith, e))
checked-both (r ∷ rs) qs (f ∷ fs) gs e =
    let again = checked-both rs qs fs gs (omega (arith, e)) in
    ap (λ (cs : List Checked). checked_with r f ∷ cs) again

checked-rules : (rs : List Rule) (fs : List Flat) → length rs ≡ length fs → map rule_in (map checked (checked_of rs fs)) ≡ rs
checked-rules [] fs e = refl
checked-rules (r ∷ rs) [] e = absurd (omega (arith, e))
checked-rules (r ∷ rs) (f ∷ fs) e = ap (λ (xs : List Rule). r ∷ xs) (checked-rules rs fs (omega (arith, e)))

module _ (base old new : List Rule) (table : Table) (flats : List Flat) (first : ℕ) (counted : first ≡ length base) (many : length old ≡ first + length flats)
    (exts : List ExtRule) (rules : List Rule) (ext_table : Table) (more all_flats : List Flat) (grown : new ≡ old ++ rules) (appended : all_flats ≡ flats ++ more) where
  abbrev pub before : Accepted
  before = accepted_from base old table flats

  abbrev pub extension : StoredExtension
  extension = record { rules = exts; stored = checked_of rules more; table = ext_table }

  pub added-as : accepted_from base new ext_table all_flats ≡ extended_by before extension
  added-as =
      let within : length base ≤ length old = omega (arith, counted, many) in
      let dropped = ap (drop (length base)) grown ∙ drop-both (length base) old rules within in
      let lengths = length-drop (length base) (length flats) old (omega (arith, counted, many)) in
      let both = checked-both (drop (length base) old) rules flats more lengths in
      let m : checked_of (drop (length base) new) all_flats ≡ checked_of (drop (length base) old) flats ++ checked_of rules more = (λ i. checked_of (dropped i) (appended i)) ∙ both in
      λ i. record { base = base; more = m i; table = ext_table }

  pub added-many : length rules ≡ length more → length new ≡ first + length all_flats
  added-many e =
      let a = ap length grown ∙ length-both old rules in
      let b = ap length appended ∙ flats-both flats more in
      omega (arith, a, b, e, many)

  module _ (base_shapes shapes all new_shapes : List Shape) (forms own new_forms : List FormData) (held : IsSetHeld base_shapes shapes forms own old before)
      (shapes_are : new_shapes ≡ all) (forms_are : new_forms ≡ own) (lengths : length rules ≡ length more)
      (fits : FitsRules (signature_of forms) base_shapes shapes all table ext_table exts)
      (sound : AreSoundBy (signature_of forms).subjects (length base_shapes) (with_table before ext_table) exts (checked_of rules more)) where
    pub added-held : IsSetHeld base_shapes new_shapes forms new_forms new (accepted_from base new ext_table all_flats)
    added-held =
        let sig = signature_of forms in
        let ok = accepted_sets_grow sig base_shapes shapes all before extension held.accepted fits sound in
        let moved = subst (λ (a : Accepted). IsAccepted sig base_shapes all a) (sym added-as) ok in
        let own_rules = ap (λ (x : List Rule). extended_rules before ++ x) (checked-rules rules more lengths) in
        let rules_are : new ≡ extended_rules (extended_by before extension) = grown ∙ ap (λ (x : List Rule). x ++ rules) held.rules_are ∙ sym own_rules ∙ sym (all-rules base before.more extension.stored) in
        record {
          accepted = subst (λ (x : List Shape). IsAccepted sig base_shapes x (accepted_from base new ext_table all_flats)) (sym shapes_are) moved;
          rules_are = rules_are ∙ ap extended_rules (sym added-as);
          same_forms = forms_are ∙ held.same_forms;
        }

    pub added-sound : HasGrownSoundly (signature_of forms).subjects (length base_shapes) before → HasGrownSoundly (signature_of forms).subjects (length base_shapes) (accepted_from base new ext_table all_flats)
    added-sound t =
        subst (λ (a : Accepted). HasGrownSoundly (signature_of forms).subjects (length base_shapes) a) (sym added-as)
        (∥∥₁_map t (λ x. (x.0 ++ extension ∷ [], growth_goes_on (signature_of forms).subjects (length base_shapes) (without_extensions base) before x.0 extension x.1 sound)))
