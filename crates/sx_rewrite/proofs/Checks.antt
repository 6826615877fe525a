-- How the rules of an extension are checked by the set before it, with the extension's table.
use Rattle.std.proofs.Common.{◌≡◌, ◌↔◌, ℕ, ◌<◌, List, [], ◌∷◌, ◌⊎◌, inl, inr, map, length, Option, Some, None, refl, sym, ◌∙◌, subst}
use Rattle.std.specs.Prelude.{slice_get, IsSome, Result}
use Rattle.sx_term.specs.Tree.{Tree, Trees, node, lexeme, hole, none, ◌▹◌, listed}
use Rattle.sx_term.specs.declared.sort.Sort.{Sort}
use Rattle.sx_term.specs.Sorts.{Shape, HasSort, KidsHaveSorts}
use Rattle.sx_rules.specs.Instances.{bound_by}
use Rattle.sx_rules.specs.Rules.{Judgement, Hypotheses}
use Rattle.sx_rules.specs.Modes.{goal_of}
use Rattle.sx_rules.specs.Sorts.{IsUntypedSort, JudgementIsSorted, JudgementsAreSorted}
use Rattle.sx_rules.specs.Sorts.{GoalIsSorted, RulesAreSorted, ProofIsSorted}
use Rattle.sx_rules.specs.Derivations.{Proof, Derives}
use Rattle.sx_rules.proofs.Sorted.{instance-sorted, inputs-sorted, derivations_are_sorted}
use Rattle.sx_plain.specs.Plain.{Body, Table, image_node, image, images}
use Rattle.sx_plain.specs.Tables.{IsCovered, AreCovered, Begins, IsBodyFor, Desugars}
use Rattle.sx_plain.proofs.Tables.{begins-at, kids-bound}
use Rattle.sx_rewrite.specs.declared.lowered.Lowered.{Lowered}
use Rattle.sx_rewrite.specs.declared.rewrite_error.RewriteError.{RewriteError}
use Rattle.sx_rewrite.specs.Accepted.{ExtRule, Checked, Accepted, extended_rules, AllDisciplined}
use Rattle.sx_rewrite.specs.Accepted.{Signature, IsAccepted}
use Rattle.sx_rewrite.specs.Extensions.{BodyFits, BodiesFit, with_table, ShapesGoOn, ComesAfter}
use Rattle.sx_rewrite.specs.Accepting.{AreStored}
use Rattle.sx_rewrite.specs.CheckLaws.{LongerTablesAreAccepted, FlatPremisesAreBase, FlatGoalsStay}
use Rattle.sx_rewrite.specs.CheckLaws.{ChecksHaveFitTerms, FoundChecksCanBeRewritten}
use Rattle.sx_rewrite.specs.CheckLaws.{ChecksAreRewrittenAlike, ChecksAreSound}
use Rattle.sx_rewrite.specs.CheckLaws.{StoredExtensionsAreSound}
use Rattle.sx_rewrite.specs.Lowers.{HypothesesBelow}
use Rattle.sx_rewrite.specs.PlainRules.{plain_of}
use Rattle.sx_rewrite.specs.RewrittenView.{IsRewriting}
use Rattle.sx_rewrite.specs.Sound.{flat_given, flat_goal, AreSoundBy}
use Rattle.sx_rewrite.proofs.FitTerms.{binds-fit, found_can_be_rewritten}
use Rattle.sx_rewrite.proofs.FlatSorted.{Placed, conclusion-sorted, plain-image, flat_forms_are_sorted}
use Rattle.sx_rewrite.proofs.Growing.{longer}
use Rattle.sx_rewrite.proofs.LongerTables.{plain_rules_stay, longer_tables_rewrite_alike}
use Rattle.sx_rewrite.proofs.LoweredSorted.{more-sorted, judgements-more-sorted}
use Rattle.sx_rewrite.proofs.PlainSets.{plain_rules_are_accepted}
use Rattle.sx_rewrite.proofs.Sound.{flat-below, stored_is_sound}

-- images of terms whose labels are before the extension or have an entry
module _ (base shapes all : List Shape) (table : Table) (base_begins : Begins base shapes) (begins : Begins shapes all) (d : Desugars base all table) (vars : List Sort) where
  no_entry : IsSome (let o : Option Body = None in o) → ⊥
  no_entry x = cc

  node-before : (label : ℕ) (ts : Trees) (shape : Shape) (o : Option Body) → table label ≡ o → slice_get all label ≡ Some shape → (label < length shapes) ⊎ IsSome o →
      KidsHaveSorts shapes vars ts shape.kids → HasSort shapes vars (image_node o label ts) shape.sort
  node-before label ts shape None e at (inl l) k = (shape, begins-at shapes all label begins l ∙ at, refl, k)
  node-before label ts shape None e at (inr x) k = absurd (no_entry x)
  node-before label ts shape (Some body) e at c k =
      let known = d.bodies label body e in
      let same : Some known.0 ≡ Some shape = sym known.1 ∙ at in
      let q : known.0 ≡ shape = cc in
      let is = subst (λ (x : Shape). IsBodyFor base x body) q known.3 in
      let own = more-sorted base shapes base_begins shape.kids body.flat shape.sort is.sorted in
      instance-sorted shapes shape.kids vars (bound_by (listed ts)) body.flat shape.sort own (λ v h sort f. kids-bound shapes vars ts shape.kids v sort k f)

  mutual
    image-before : (t : Tree) (sort : Sort) → HasSort all vars t sort → IsCovered (length shapes) table t → HasSort shapes vars (image table t) sort
    image-before (node label ts) sort h c =
        subst (λ (x : Sort). HasSort shapes vars (image_node (table label) label (images table ts)) x) h.2
        (node-before label (images table ts) h.0 (table label) refl h.1 c.0 (images-before ts h.0.kids h.3 c.1))
    image-before (lexeme kind text) sort h c = h
    image-before (hole v) sort h c = h

    images-before : (ts : Trees) (sorts : List Sort) → KidsHaveSorts all vars ts sorts → AreCovered (length shapes) table ts → KidsHaveSorts shapes vars (images table ts) sorts
    images-before none [] h c = tt
    images-before none (x ∷ xs) h c = absurd h
    images-before (t ▹ ts) [] h c = absurd h
    images-before (t ▹ ts) (x ∷ xs) h c = (image-before t x h.0 c.0, images-before ts xs h.1 c.1)

module _ (sig : Signature) (base shapes all : List Shape) (a : Accepted) (table : Table) (ext : ExtRule) (x : ComesAfter sig base shapes all a table ext) where
  abbrev vars : List Sort
  vars = ext.rule.sorts

  abbrev hyps : Hypotheses
  hyps = flat_given table sig.subjects ext

  abbrev goal : Judgement
  goal = flat_goal table sig.subjects ext

  first : IsAccepted sig base all (with_table a table)
  first = longer sig base shapes all a table x.accepted x.goes_on

  below : HypothesesBelow (length base) hyps
  below = flat-below sig base all (with_table a table) first (length shapes) ext x.sorted x.disciplined x.body

  given-sorted : JudgementsAreSorted shapes sig.forms vars hyps.judgements
  given-sorted =
      let flat = flat_forms_are_sorted sig base all table first.begins first.no_typed first.fits first.desugars (length shapes) ext x.sorted x.disciplined x.body in
      judgements-more-sorted base shapes x.accepted.begins vars sig.forms hyps.judgements flat.0

  plain-before : (t : Tree) (sort : Sort) → HasSort all vars t sort → IsUntypedSort sort → HasSort shapes vars (image table t) sort
  plain-before t sort h u =
      let own = plain-image base all table first.begins first.no_typed first.desugars vars t sort h u in
      more-sorted base shapes x.accepted.begins vars (image table t) sort own

  placed : (body : Option Tree) → BodyFits sig all (length shapes) table ext.rule body → Placed all shapes table vars plain-before sig x.accepted.fits body
  placed None f = tt
  placed (Some body) f = λ sort h. image-before base shapes all table x.accepted.begins x.goes_on.begins x.goes_on.desugars vars body sort h f.1

  goal-sorted : JudgementIsSorted shapes sig.forms vars goal
  goal-sorted = conclusion-sorted all shapes table vars plain-before sig x.accepted.fits (length shapes) ext.rule ext.body (placed ext.body x.body) refl x.sorted.0 x.body

  goal-inputs : GoalIsSorted shapes sig.forms sig.modes vars (goal_of sig.modes goal)
  goal-inputs = inputs-sorted shapes vars (sig.modes goal.form) goal.places (sig.forms goal.form) goal-sorted

  plain : IsAccepted sig base shapes (plain_of a)
  plain = plain_rules_are_accepted sig base shapes a x.accepted

  proof-sorted : (p : Proof) → Derives (extended_rules (plain_of a)) hyps goal p → ProofIsSorted shapes (extended_rules (plain_of a)) vars p
  proof-sorted p d = (derivations_are_sorted sig.modes (extended_rules (plain_of a)) hyps shapes sig.forms vars plain.moded plain.sorted given-sorted goal p d goal-inputs).1

  rewritten-alike : (p : Proof) → Derives (extended_rules (plain_of a)) hyps goal p → (budget : ℕ) (result : Result Lowered RewriteError) →
      IsRewriting (plain_of a) sig.subjects hyps p budget result ↔ IsRewriting (plain_of (with_table a table)) sig.subjects hyps p budget result
  rewritten-alike p d budget result =
      let alike = longer_tables_rewrite_alike sig base shapes (plain_of a) plain table x.goes_on.keeps hyps vars p (proof-sorted p d) budget result in
      subst (λ (y : Accepted). IsRewriting (plain_of a) sig.subjects hyps p budget result ↔ IsRewriting y sig.subjects hyps p budget result)
      (sym (plain_rules_stay sig base shapes a x.accepted table x.goes_on.keeps)) alike

pub longer_tables_are_accepted : LongerTablesAreAccepted
longer_tables_are_accepted sig base shapes all a ok table g = longer sig base shapes all a table ok g

pub flat_premises_are_base : FlatPremisesAreBase
flat_premises_are_base sig base shapes all a table ext x = below sig base shapes all a table ext x

pub flat_goals_stay : FlatGoalsStay
flat_goals_stay sig base shapes all a table ext x = goal-sorted sig base shapes all a table ext x

pub checks_have_fit_terms : ChecksHaveFitTerms
checks_have_fit_terms sig base shapes all a table ext x p d =
    let own = proof-sorted sig base shapes all a table ext x p d in
    binds-fit base shapes a.table ext.rule.sorts x.accepted.desugars (extended_rules (plain_of a)) p own

pub found_checks_can_be_rewritten : FoundChecksCanBeRewritten
found_checks_can_be_rewritten sig base shapes all a table ext x answer is_first low near =
    let hyps = flat_given table sig.subjects ext in
    let goal = goal_of sig.modes (flat_goal table sig.subjects ext) in
    let given = given-sorted sig base shapes all a table ext x in
    found_can_be_rewritten sig base shapes (plain_of a) (plain sig base shapes all a table ext x) hyps ext.rule.sorts given
    goal (goal-inputs sig base shapes all a table ext x) answer is_first.derives low near

pub checks_are_rewritten_alike : ChecksAreRewrittenAlike
checks_are_rewritten_alike sig base shapes all a table ext x p d budget result = rewritten-alike sig base shapes all a table ext x p d budget result

pub checks_are_sound : ChecksAreSound
checks_are_sound sig base shapes all a table ext x c stored =
    stored_is_sound sig base all (with_table a table) (first sig base shapes all a table ext x) (length shapes) ext x.sorted x.disciplined x.body c stored

-- the rules of an extension that fits come after the set
module _ (sig : Signature) (base shapes all : List Shape) (a : Accepted) (table : Table) (ok : IsAccepted sig base shapes a) (g : ShapesGoOn base shapes all a.table table) where
  each-sound : (es : List ExtRule) (cs : List Checked) → RulesAreSorted all sig.forms (map (λ e. e.rule) es) → AllDisciplined sig.subjects (map (λ e. e.rule) es) →
      BodiesFit sig all (length shapes) table es → AreStored sig (length base) (with_table a table) es cs → AreSoundBy sig.subjects (length base) (with_table a table) es cs
  each-sound [] [] h d f s = tt
  each-sound [] (c ∷ cs) h d f s = absurd s
  each-sound (e ∷ es) [] h d f s = absurd s
  each-sound (e ∷ es) (c ∷ cs) h d f s =
      let here : ComesAfter sig base shapes all a table e = record { accepted = ok; goes_on = g; sorted = h.0; disciplined = d.0; body = f.0 } in
      (checks_are_sound sig base shapes all a table e here c s.0, each-sound es cs h.1 d.1 f.1 s.1)

pub stored_extensions_are_sound : StoredExtensionsAreSound
stored_extensions_are_sound sig base shapes all a ok e x stored =
    each-sound sig base shapes all a e.table ok x.goes_on e.rules e.stored x.sorted x.disciplined x.bodies stored
