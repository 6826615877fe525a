-- Adding an extension to an accepted set has one answer.
use Rattle.std.proofs.Common.{◌≡◌, ℕ, ◌+◌, List, [], ◌∷◌, inl, inr, map, refl, sym, ap, ◌∙◌}
use Rattle.std.specs.Prelude.{Result, Ok, Err}
use Rattle.sx_term.specs.Sorts.{Shape}
use Rattle.sx_rules.specs.Sets.{shapes_in}
use Rattle.sx_rules.specs.Views.{rule}
use Rattle.sx_plain.specs.Views.{table_of}
use Rattle.sx_rewrite.specs.declared.accepted.Accepted.{Accepted as AcceptedOf}
use Rattle.sx_rewrite.specs.declared.ext_rule.ExtRule.{ExtRule as ExtRuleOf}
use Rattle.sx_rewrite.specs.Accepted.{Accepted, Checked, IsAccepted}
use Rattle.sx_rewrite.specs.AcceptedView.{accepted, signature}
use Rattle.sx_rewrite.specs.Extensions.{extended_by}
use Rattle.sx_rewrite.specs.ExtensionView.{ext_rule}
use Rattle.sx_rewrite.specs.Stored.{checked_of}
use Rattle.sx_rewrite.proofs.Growing.{longer}
use Rattle.sx_extcheck.specs.declared.accept_error.AcceptError.{AcceptError}
use Rattle.sx_extcheck.specs.declared.accept_error.AcceptError.TheVariants.{Memory, Rule}
use Rattle.sx_extcheck.specs.declared.refused.Refused.{Refused}
use Rattle.sx_extcheck.specs.Accepts.{check_for, AreRulesChecked, IsAcceptOutcome}
use Rattle.sx_extcheck.specs.Agree.{Agree, AreSameSets, OneOutcomeIsDue, told_of}
use Rattle.sx_extcheck.specs.Checks.{Check, tries_for}
use Rattle.sx_extcheck.proofs.Verdicts.{stored-once, refused-once, not-both}

module _ (c : Check) (base shapes : List Shape) (ok : IsAccepted c.sig base shapes c.set) where
  more-tries : (t m n rest more : ℕ) → m ≡ t + rest → n ≡ t + more → rest ≡ more → m ≡ n
  more-tries t m n rest more a b e = a ∙ ap (λ (k : ℕ). t + k) e ∙ sym b

  all-agree : (es : List ExtRuleOf) (m n : ℕ) (one other : Result (List Checked) AcceptError) →
      AreRulesChecked c es m one → AreRulesChecked c es n other → Agree (λ ss ts. ss ≡ ts) m n one other
  all-agree [] m n (Err Memory) other h i = tt
  all-agree (e ∷ es) m n (Err Memory) other h i = tt
  all-agree [] m n (Ok ss) (Err Memory) h i = tt
  all-agree (e ∷ es) m n (Ok ss) (Err Memory) h i = tt
  all-agree [] m n (Err (Rule name d)) other h i = absurd h
  all-agree (e ∷ es) m n (Err (Rule name d)) (Err Memory) h i = tt
  all-agree [] m n (Ok []) (Ok []) h i = (h ∙ sym i, refl)
  all-agree [] m n (Ok []) (Ok (t ∷ ts)) h i = absurd i
  all-agree [] m n (Ok (s ∷ ss)) (Ok ts) h i = absurd h
  all-agree [] m n (Ok ss) (Err (Rule name d)) h i = absurd i
  all-agree (e ∷ es) m n (Ok []) (Ok ts) h i = absurd h
  all-agree (e ∷ es) m n (Ok []) (Err (Rule name d)) h i = absurd h
  all-agree (e ∷ es) m n (Ok (s ∷ ss)) (Ok []) h i = absurd i
  all-agree (e ∷ es) m n (Ok (s ∷ ss)) (Ok (t ∷ ts)) (h, rest, a, k) (i, more, b, l) =
      let again = all-agree es rest more (Ok ss) (Ok ts) k l in
      let first = stored-once c (ext_rule e) base shapes ok s t h i in (
        more-tries (tries_for c (ext_rule e)) m n rest more a b again.0,
        ap (λ (x : Checked). x ∷ ss) first ∙ ap (λ (xs : List Checked). t ∷ xs) again.1,
      )
  all-agree (e ∷ es) m n (Ok (s ∷ ss)) (Err (Rule name d)) (h, rest, a, k) (inl (same, i, b)) =
      not-both c (ext_rule e) base shapes ok s d h i
  all-agree (e ∷ es) m n (Ok (s ∷ ss)) (Err (Rule name d)) (h, rest, a, k) (inr (t, i, more, b, l)) =
      all-agree es rest more (Ok ss) (Err (Rule name d)) k l
  all-agree (e ∷ es) m n (Err (Rule name d)) (Ok []) h i = absurd i
  all-agree (e ∷ es) m n (Err (Rule name d)) (Ok (t ∷ ts)) (inl (same, h, a)) (i, more, b, l) =
      not-both c (ext_rule e) base shapes ok t d i h
  all-agree (e ∷ es) m n (Err (Rule name d)) (Ok (t ∷ ts)) (inr (s, h, rest, a, k)) (i, more, b, l) =
      all-agree es rest more (Err (Rule name d)) (Ok ts) k l
  all-agree (e ∷ es) m n (Err (Rule name d)) (Err (Rule other r)) (inl (same, h, a)) (inl (also, i, b)) =
      (a ∙ sym b, same ∙ sym also, refused-once c (ext_rule e) base shapes ok d r h i)
  all-agree (e ∷ es) m n (Err (Rule name d)) (Err (Rule other r)) (inl (same, h, a)) (inr (t, i, more, b, l)) =
      absurd (not-both c (ext_rule e) base shapes ok t d i h)
  all-agree (e ∷ es) m n (Err (Rule name d)) (Err (Rule other r)) (inr (s, h, rest, a, k)) (inl (also, i, b)) =
      absurd (not-both c (ext_rule e) base shapes ok s r h i)
  all-agree (e ∷ es) m n (Err (Rule name d)) (Err (Rule other r)) (inr (s, h, rest, a, k)) (inr (t, i, more, b, l)) =
      let again = all-agree es rest more (Err (Rule name d)) (Err (Rule other r)) k l in
      (more-tries (tries_for c (ext_rule e)) m n rest more a b again.0, again.1, again.2)

pub one_outcome_is_due : OneOutcomeIsDue
one_outcome_is_due old all ext budgets ok goes_on m n one other h i = go one other h i
  where
    c : Check
    c = check_for old ext budgets

    longer_set : IsAccepted (signature old) (shapes_in old.base) all c.set
    longer_set = longer (signature old) (shapes_in old.base) (shapes_in old.rules) all (accepted old) (table_of ext.plain) ok goes_on

    both : (one other : Result (List Checked) AcceptError) → AreRulesChecked c ext.rules.items m one → AreRulesChecked c ext.rules.items n other →
        Agree (λ ss ts. ss ≡ ts) m n one other
    both one other h i = all-agree c (shapes_in old.base) all longer_set ext.rules.items m n one other h i

    with_stored : List Checked → Accepted
    with_stored stored = extended_by (accepted old) (record { rules = map ext_rule ext.rules.items; stored = stored; table = table_of ext.plain })

    refused : (x y : AcceptError) → Agree {X = List Checked} (λ ss ts. ss ≡ ts) m n (Err x) (Err y) → Agree AreSameSets m n (Err x) (Err y)
    refused Memory y a = tt
    refused (Rule name d) Memory a = tt
    refused (Rule name d) (Rule other r) a = a

    ok-err : (new : AcceptedOf) (ss : List Checked) (y : AcceptError) → Agree (λ ss ts. ss ≡ ts) m n (Ok ss) (Err y) → Agree AreSameSets m n (Ok new) (Err y)
    ok-err new ss Memory a = tt
    ok-err new ss (Rule name d) a = a

    err-ok : (new : AcceptedOf) (ss : List Checked) (y : AcceptError) → Agree (λ ss ts. ss ≡ ts) m n (Err y) (Ok ss) → Agree AreSameSets m n (Err y) (Ok new)
    err-ok new ss Memory a = tt
    err-ok new ss (Rule name d) a = a

    go : (one other : Result AcceptedOf Refused) → IsAcceptOutcome old all ext c m one → IsAcceptOutcome old all ext c n other → Agree AreSameSets m n (told_of one) (told_of other)
    go (Ok x) (Ok y) (fs, k, a) (gs, l, b) =
        let s = checked_of (map (λ e. rule e.rule) ext.rules.items) fs in
        let t = checked_of (map (λ e. rule e.rule) ext.rules.items) gs in
        let same = both (Ok s) (Ok t) k l in (
          same.0,
          record {
            base = a.0 ∙ sym b.0;
            shapes = a.1 ∙ sym b.1;
            rules = a.2 ∙ sym b.2;
            accepted = a.3 ∙ ap with_stored same.1 ∙ sym b.3;
          },
        )
    go (Ok x) (Err q) (fs, k, a) (l, b) =
        let s = checked_of (map (λ e. rule e.rule) ext.rules.items) fs in
        ok-err x s q.error (both (Ok s) (Err q.error) k l)
    go (Err p) (Ok y) (k, a) (gs, l, b) =
        let t = checked_of (map (λ e. rule e.rule) ext.rules.items) gs in
        err-ok y t p.error (both (Err p.error) (Ok t) k l)
    go (Err p) (Err q) (k, a) (l, b) = refused p.error q.error (both (Err p.error) (Err q.error) k l)
