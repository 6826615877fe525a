-- What is stored of a rule, by its number.
use Rattle.std.proofs.Common.{◌≡◌, arith, ℕ, zero, suc, ◌+◌, ◌-◌, ◌<◌, ◌≤◌, Bool, true, false, List, [], ◌∷◌, ◌++◌, map, length, drop, Option, Some, None, refl, sym, ap, ◌∙◌, subst, if◌then◌else◌}
use Rattle.std.specs.Prelude.{slice_get, nat_lt, option_map, MatchOption}
use Rattle.std.specs.Option.{option_copied}
use Rattle.std.specs.Borrow.{Bor}
use Rattle.sx_term.specs.Tree.{Tree}
use Rattle.sx_term.specs.declared.term.Term.{Term as TermOf}
use Rattle.std.proofs.lemmas.Bool.{ltb-true, ltb-false}
use Rattle.sx_term.specs.Term.{tree}
use Rattle.sx_rules.specs.Rules.{Rule}
use Rattle.sx_rules.specs.ProofView.{proof}
use Rattle.sx_plain.specs.Plain.{Table}
use Rattle.sx_rewrite.specs.declared.flat.Flat.{Flat}
use Rattle.sx_rewrite.specs.Accepted.{Known, basic, checked, Checked}
use Rattle.sx_rewrite.specs.Stored.{checked_with, checked_of, accepted_from, stored_in, stored_at, certificate_at, body_in, flat_body_at, flat_at}

-- of a base rule nothing is stored
pub base-none : (base : List Rule) (more : List Known) (r : ℕ) → r < length base → stored_in (slice_get (map basic base ++ more) r) ≡ None
base-none [] more r l = absurd (omega (arith, l))
base-none (b ∷ bs) more zero l = refl
base-none (b ∷ bs) more (suc r) l = base-none bs more r (omega (arith, l))

-- the others follow
pub after-base : (base : List Rule) (more : List Known) (r : ℕ) → length base ≤ r → slice_get (map basic base ++ more) r ≡ slice_get more (r - length base)
after-base [] more r l = let e : r ≡ r - 0 = omega arith in ap (slice_get more) e
after-base (b ∷ bs) more zero l = absurd (omega (arith, l))
after-base (b ∷ bs) more (suc r) l =
    let e : r - length bs ≡ suc r - suc (length bs) = omega arith in
    after-base bs more r (omega (arith, l)) ∙ ap (slice_get more) e

-- what is stored at a place, with its rule
abbrev pub StoredFrom : Option Flat → Option Checked → Type 0
StoredFrom None c = c ≡ None
StoredFrom (Some f) c = (r : Rule) × (c ≡ Some (checked_with r f))

stored-from : (rs : List Rule) (fs : List Flat) (i : ℕ) → length rs ≡ length fs → StoredFrom (slice_get fs i) (stored_in (slice_get (map checked (checked_of rs fs)) i))
stored-from [] [] i e = refl
stored-from [] (f ∷ fs) i e = absurd (omega (arith, e))
stored-from (r ∷ rs) [] i e = absurd (omega (arith, e))
stored-from (r ∷ rs) (f ∷ fs) zero e = (r, refl)
stored-from (r ∷ rs) (f ∷ fs) (suc i) e = stored-from rs fs i (omega (arith, e))

length-drop : (n : ℕ) (rs : List Rule) (m : ℕ) → length rs ≡ n + m → length (drop n rs) ≡ m
length-drop zero rs m e = omega (arith, e)
length-drop (suc n) [] m e = absurd (omega (arith, e))
length-drop (suc n) (r ∷ rs) m e = length-drop n rs m (omega (arith, e))

pub stored-by : (base rules : List Rule) (flats : List Flat) (table : Table) (first r : ℕ) → first ≡ length base → length rules ≡ first + length flats →
    StoredFrom (flat_at first flats r) (stored_at (accepted_from base rules table flats) r)
stored-by base rules flats table first r counted many = go (nat_lt r first) refl
  where
    more : List Checked
    more = checked_of (drop (length base) rules) flats

    go : (b : Bool) → nat_lt r first ≡ b → StoredFrom (if b then None else slice_get flats (r - first)) (stored_in (slice_get (map basic base ++ map checked more) r))
    go true e = let l = ltb-true r first e in base-none base (map checked more) r (omega (arith, l, counted))
    go false e =
        let l = ltb-false r first e in
        let at = after-base base (map checked more) r (omega (arith, l, counted)) in
        let n = length-drop (length base) rules (length flats) (omega (arith, counted, many)) in
        let there = stored-from (drop (length base) rules) flats (r - length base) n in
        let moved = subst (λ (o : Option Known). StoredFrom (slice_get flats (r - length base)) (stored_in o)) (sym at) there in
        subst (λ (k : ℕ). StoredFrom (slice_get flats (r - k)) (stored_in (slice_get (map basic base ++ map checked more) r))) (sym counted) moved

module _ (base rules : List Rule) (flats : List Flat) (table : Table) (first r : ℕ) (counted : first ≡ length base) (many : length rules ≡ first + length flats) where
  pub certificate-some : (f : Flat) → flat_at first flats r ≡ Some f → certificate_at (accepted_from base rules table flats) r ≡ Some (proof f.proof.value)
  certificate-some f e =
      let s = subst (λ (o : Option Flat). StoredFrom o (stored_at (accepted_from base rules table flats) r)) e (stored-by base rules flats table first r counted many) in
      ap (option_map (λ (c : Checked). c.proof)) s.1

  pub certificate-none : flat_at first flats r ≡ None → certificate_at (accepted_from base rules table flats) r ≡ None
  certificate-none e =
      let s = subst (λ (o : Option Flat). StoredFrom o (stored_at (accepted_from base rules table flats) r)) e (stored-by base rules flats table first r counted many) in
      ap (option_map (λ (c : Checked). c.proof)) s

  pub body-some : (f : Flat) → flat_at first flats r ≡ Some f → flat_body_at (accepted_from base rules table flats) r ≡ option_map tree f.subject
  body-some f e =
      let s = subst (λ (o : Option Flat). StoredFrom o (stored_at (accepted_from base rules table flats) r)) e (stored-by base rules flats table first r counted many) in
      ap body_in s.1

  pub body-none : flat_at first flats r ≡ None → flat_body_at (accepted_from base rules table flats) r ≡ None
  body-none e =
      let s = subst (λ (o : Option Flat). StoredFrom o (stored_at (accepted_from base rules table flats) r)) e (stored-by base rules flats table first r counted many) in
      ap body_in s

-- a body that is shown is the one that is stored
pub shown : (o : Option (Bor TermOf)) (s : Option TermOf) (x : Option Tree) → option_copied o ≡ s → x ≡ option_map tree s → MatchOption o (x ≡ None) (λ t. x ≡ Some (tree t.now))
shown None s x e f = f ∙ ap (option_map tree) (sym e)
shown (Some t) s x e f = f ∙ ap (option_map tree) (sym e)

-- where nothing is stored there are no extension rules, and else there are
pub none-stored : (rs : List Rule) (flats : List Flat) → flats ≡ [] → checked_of rs flats ≡ []
none-stored rs flats none = ap (checked_of rs) none ∙ stored rs
  where
    stored : (rs : List Rule) → checked_of rs [] ≡ []
    stored [] = refl
    stored (r ∷ rs) = refl

pub some-stored : (base rules : List Rule) (flats : List Flat) (first : ℕ) → first ≡ length base → length rules ≡ first + length flats → checked_of (drop (length base) rules) flats ≡ [] → flats ≡ []
some-stored base rules flats first counted many none = go (drop (length base) rules) flats (length-drop (length base) rules (length flats) (omega (arith, counted, many))) none
  where
    go : (rs : List Rule) (fs : List Flat) → length rs ≡ length fs → checked_of rs fs ≡ [] → fs ≡ []
    go rs [] e none = refl
    go [] (f ∷ fs) e none = absurd (omega (arith, e))
    go (r ∷ rs) (f ∷ fs) e none = cc
