-- What is stored of a rule is its first derivation, or what that is lowered to; a rule that is rejected has none.
use Rattle.std.proofs.Common.{◌≡◌, ℕ, ◌<◌, Bool, true, false, List, ◌⊎◌, inl, inr, Option, Some, None, refl, sym, ap, ◌∙◌, subst, if◌then◌else◌}
use Rattle.std.specs.Prelude.{is_none, IsSome}
use Rattle.std.proofs.lemmas.Bool.{lt-ltb}
use Rattle.sx_term.specs.Tree.{Tree, Trees, node, lexeme, hole, none, ◌▹◌}
use Rattle.sx_rules.specs.First.{IsFirst, IsUnderivable}
use Rattle.sx_rules.specs.Derivations.{Proof}
use Rattle.sx_rules.specs.Modes.{AllModed}
use Rattle.sx_rules.specs.Rules.{Rule}
use Rattle.sx_plain.specs.Plain.{Body, Table}
use Rattle.sx_plain.specs.Tables.{IsCovered, AreCovered}
use Rattle.sx_plain.specs.Adds.{uncovered, label_or, first_uncovered, first_uncovered_of}
use Rattle.sx_plain.proofs.AddLaws.{covered}
use Rattle.sx_derive.specs.Search.{found, exhausted}
use Rattle.sx_derive.proofs.Walked.{found_is_first, exhausted_means_none}
use Rattle.sx_rewrite.specs.Accepted.{ExtRule, Checked, extended_rules}
use Rattle.sx_rewrite.specs.Accepting.{IsStored, IsRejected}
use Rattle.sx_rewrite.specs.Lowers.{Lowers}
use Rattle.sx_rewrite.specs.PlainRules.{plain_of}
use Rattle.sx_rewrite.specs.Sound.{HasBaseSyntax, flat_given}
use Rattle.sx_extcheck.specs.Checks.{Check, has_base_syntax, by_base, search_for, EndsSo, IsStoredFor}
use Rattle.sx_extcheck.specs.Searches.{Search, ending_of}

-- whether the typed syntax of a body is base
known-label : (n : ℕ) (o : Option Body) (label : ℕ) → (label < n) ⊎ IsSome o → uncovered n o label ≡ None
known-label n None label (inl l) = ap (λ (b : Bool). if b then None else Some label) (lt-ltb label n l)
known-label n None label (inr h) = cc
known-label n (Some body) label h = refl

mutual
  all-known : (n : ℕ) (table : Table) (t : Tree) → IsCovered n table t → first_uncovered n table t ≡ None
  all-known n table (node label ts) h =
      ap (λ (o : Option ℕ). label_or o (first_uncovered_of n table ts)) (known-label n (table label) label h.0) ∙ each-known n table ts h.1
  all-known n table (lexeme kind text) h = refl
  all-known n table (hole v) h = refl

  each-known : (n : ℕ) (table : Table) (ts : Trees) → AreCovered n table ts → first_uncovered_of n table ts ≡ None
  each-known n table none h = refl
  each-known n table (t ▹ ts) h = ap (λ (o : Option ℕ). label_or o (first_uncovered_of n table ts)) (all-known n table t h.0) ∙ each-known n table ts h.1

pub is-base : (n : ℕ) (table : Table) (body : Option Tree) → has_base_syntax n table body ≡ true → HasBaseSyntax n table body
is-base n table None e = tt
is-base n table (Some t) e = covered n table t (none-there (first_uncovered n table t) e)
  where
    none-there : (o : Option ℕ) → is_none o ≡ true → o ≡ None
    none-there None q = refl
    none-there (Some m) q = cc

pub not-base : (n : ℕ) (table : Table) (body : Option Tree) → has_base_syntax n table body ≡ false → HasBaseSyntax n table body → ⊥
not-base n table None e h = cc
not-base n table (Some t) e h = let q : true ≡ false = sym (ap is_none (all-known n table t h)) ∙ e in cc

-- of a check by moded rules
module _ (c : Check) (ext : ExtRule) (base_moded : AllModed c.sig.modes c.set.base) (plain_moded : AllModed c.sig.modes (extended_rules (plain_of c.set))) where
  abbrev s : Search
  s = search_for c ext

  abbrev by_these : List Rule → Search
  by_these rules = record { modes = s.modes; subjects = s.subjects; rules = rules; hyps = s.hyps; goal = s.goal; wanted = s.wanted }

  abbrev rules_by : Bool → List Rule
  rules_by b = if b then c.set.base else extended_rules (plain_of c.set)

  first-by : (rules : List Rule) → AllModed c.sig.modes rules → (p : Proof) (outs : List Tree) → ending_of (by_these rules) c.tries ≡ found (p, outs) →
      IsFirst c.sig.modes rules s.hyps s.goal (Some s.wanted) (p, outs)
  first-by rules moded p outs e = found_is_first c.sig.modes rules s.hyps moded s.goal (Some s.wanted) c.tries 1 (p, outs) e

  none-by : (rules : List Rule) → AllModed c.sig.modes rules → ending_of (by_these rules) c.tries ≡ exhausted → IsUnderivable c.sig.modes rules s.hyps s.goal (Some s.wanted)
  none-by rules moded e = exhausted_means_none c.sig.modes rules s.hyps moded s.goal (Some s.wanted) c.tries 1 e

  pub checked-stored : (st : Checked) → IsStoredFor c ext st → IsStored c.sig c.labels c.set ext st
  checked-stored st (inl (b, p, outs, (within, ends), same)) =
      inl (
        is-base c.labels c.set.table ext.body b,
        (p, outs),
        first-by c.set.base base_moded p outs (subst (λ (v : Bool). ending_of (by_these (rules_by v)) c.tries ≡ found (p, outs)) b ends),
        same,
      )
  checked-stored st (inr (x, (b, p, outs, (within, ends), h), t, subject, same)) =
      inr (
        not-base c.labels c.set.table ext.body b,
        (p, outs),
        first-by (extended_rules (plain_of c.set)) plain_moded p outs (subst (λ (v : Bool). ending_of (by_these (rules_by v)) c.tries ≡ found (p, outs)) b ends),
        record {
          same_rule = ap (λ (y : Checked). y.rule) same;
          judgement = x.judgement;
          subject = t;
          lowers = subst (λ (q : Proof). Lowers (plain_of c.set) c.sig.subjects (flat_given c.set.table c.sig.subjects ext) p q x.judgement) (sym (ap (λ (y : Checked). y.proof) same)) h.0;
          is_subject = subject;
          flat_body = ap (λ (y : Checked). y.body) same;
        },
      )

  pub checked-rejected : EndsSo c ext exhausted → IsRejected c.sig c.labels c.set ext
  checked-rejected (within, ends) = go (by_base c ext) refl
    where
      go : (b : Bool) → by_base c ext ≡ b → IsRejected c.sig c.labels c.set ext
      go true e = (c.set.base, inl (is-base c.labels c.set.table ext.body e, refl), none-by c.set.base base_moded (subst (λ (v : Bool). ending_of (by_these (rules_by v)) c.tries ≡ exhausted) e ends))
      go false e = (extended_rules (plain_of c.set), inr (not-base c.labels c.set.table ext.body e, refl), none-by (extended_rules (plain_of c.set)) plain_moded (subst (λ (v : Bool). ending_of (by_these (rules_by v)) c.tries ≡ exhausted) e ends))
