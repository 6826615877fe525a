-- What a node of a derivation binds.
use Rattle.std.proofs.Common.{◌≡◌, ℕ, ◌<◌, List, [], ◌∷◌, map, length, Vec, Some, sym, ap, ◌∙◌, subst, arith}
use Rattle.std.specs.Prelude.{slice_get, Result, Ok, Err, IfOk, OnOk}
use Rattle.std.specs.declared.alloc.Global.{Global}
use Rattle.sx_term.specs.Tree.{Tree}
use Rattle.sx_rules.specs.Derivations.{Proofs, by, Derives, DeriveEach}
use Rattle.sx_rules.specs.Instances.{bound_by}
use Rattle.sx_rules.specs.Modes.{Modes, inputs_of, outputs_of, AllModed}
use Rattle.sx_rules.specs.Rules.{Judgement, Premise, holds, Rule, Hypotheses, judgement_instance}
use Rattle.sx_rules.specs.Rules.{judgements_of}
use Rattle.sx_rules.proofs.Moded.{moded-at}
use Rattle.sx_plain.specs.Plain.{Table}
use Rattle.sx_arena.specs.declared.arena.Arena.{Arena}
use Rattle.sx_arena.specs.Arena.{Extends}
use Rattle.sx_arena.specs.Binds.{env_at}
use Rattle.sx_arena.specs.Limits.{first_values}
use Rattle.sx_arena.specs.Places.{AreHeld}
use Rattle.sx_arena.specs.Matching.{Assignment, nothing_bound, match_all, filled, IsBound}
use Rattle.sx_arena.proofs.BindChains.{envs_stay}
use Rattle.sx_arena.proofs.Growing.{extends-then}
use Rattle.sx_expand.specs.declared.reader.Reader.{Reader}
use Rattle.sx_expand.specs.declared.work.Work.{Work}
use Rattle.sx_expand.specs.Followed.{FollowsNode, IsWork, bindings_of}
use Rattle.sx_expand.specs.Readers.{terms_in, IsLoweringReader, ReaderGoesOn}
use Rattle.sx_expand.proofs.Following.{Matched, follows-start, follows-inputs, follows-outputs, follows-bound, follows-binds, follows-concluded}
use Rattle.sx_expand.proofs.KidsStay.{found-is, rule-within}
use Rattle.sx_expand.proofs.NumbersPut.{arena-grows}

-- the rule with a number, of two equal lists
module _ (xs rules : List Rule) (are : xs ≡ rules) (r : ℕ) (rule : Rule) (found : slice_get rules r ≡ Some rule) where
  pub number-within : r < length xs
  number-within = subst (λ (ys : List Rule). r < length ys) (sym are) (rule-within rules r rule found)

  pub rule-same : (x : Rule) → slice_get xs r ≡ Some x → x ≡ rule
  rule-same x e = found-is _ x rule (subst (λ (ys : List Rule). slice_get ys r ≡ Some x) are e) found

-- a node by its rule
pub record IsBy (rules : List Rule) (hyps : Hypotheses) (rule : Rule) (j : Judgement) (binds : List Tree) (kids : Proofs) : Type 0 where
  pub many : length binds ≡ length rule.sorts
  pub concluded : judgement_instance (bound_by binds) rule.conclusion ≡ j
  pub each : DeriveEach rules hyps (map (judgement_instance (bound_by binds)) (judgements_of rule.premises)) kids

pub is-by : (rules : List Rule) (hyps : Hypotheses) (r : ℕ) (rule : Rule) (j : Judgement) (binds : List Tree) (kids : Proofs) → slice_get rules r ≡ Some rule → Derives rules hyps j (by r binds kids) → IsBy rules hyps rule j binds kids
is-by rules hyps r rule j binds kids found (other, at, many, concluded, apart_ones, each) =
    let same = found-is _ other rule at found in
    subst (λ (x : Rule). IsBy rules hyps x j binds kids) same (record { many = many; concluded = concluded; each = each })

-- what is found is what is followed
pub matched-follows : (modes : Modes) (rule : Rule) (s : ℕ → Tree) (patterns terms : List Tree) (env more : Assignment) (ps : List Premise) → Matched modes rule s patterns terms env ps → match_all patterns terms env ≡ Some more → FollowsNode modes rule s ps more
matched-follows modes rule s patterns terms env more ps m e =
    let q : Some m.more ≡ Some more = sym m.found ∙ e in
    let same : m.more ≡ more = cc in
    subst (λ (x : Assignment). FollowsNode modes rule s ps x) same m.follows

-- the same by the rules and the modes of the code
module _ (modes own : Modes) (same_modes : own ≡ modes) where
  module _ (rules : List Rule) (hyps : Hypotheses) (moded : AllModed modes rules) (r : ℕ) (rule code : Rule) (same : code ≡ rule) (found : slice_get rules r ≡ Some rule) (j : Judgement) (binds : List Tree) (kids : Proofs) (d : Derives rules hyps j (by r binds kids)) where
    module _ (terms : List Tree) (is : terms ≡ inputs_of modes j) where
      begun : Matched modes rule (bound_by binds) (inputs_of modes rule.conclusion) terms nothing_bound rule.premises
      begun = follows-start modes rule (bound_by binds) terms (moded-at modes rules r rule moded found) (is ∙ ap (inputs_of modes) (sym (is-by rules hyps r rule j binds kids found d).concluded))

      patterns-are : inputs_of own code.conclusion ≡ inputs_of modes rule.conclusion
      patterns-are = ap (λ (m : Modes). inputs_of m code.conclusion) same_modes ∙ ap (λ (x : Rule). inputs_of modes x.conclusion) same

      pub begins : (more : Assignment) × (match_all (inputs_of own code.conclusion) terms nothing_bound ≡ Some more)
      begins = (begun.more, ap (λ (us : List Tree). match_all us terms nothing_bound) patterns-are ∙ begun.found)

      pub begins-followed : (more : Assignment) → match_all (inputs_of own code.conclusion) terms nothing_bound ≡ Some more → FollowsNode modes rule (bound_by binds) rule.premises more
      begins-followed more e = matched-follows modes rule (bound_by binds) (inputs_of modes rule.conclusion) terms nothing_bound more rule.premises begun (sym (ap (λ (us : List Tree). match_all us terms nothing_bound) patterns-are) ∙ e)

    module _ (env : Assignment) (f : FollowsNode modes rule (bound_by binds) [] env) where
      pub ends-concluded : outputs_of own (judgement_instance (filled env) code.conclusion) ≡ outputs_of modes j
      ends-concluded =
          ap (λ (m : Modes). outputs_of m (judgement_instance (filled env) code.conclusion)) same_modes
          ∙ ap (λ (x : Rule). outputs_of modes (judgement_instance (filled env) x.conclusion)) same
          ∙ follows-concluded modes rule (bound_by binds) env f
          ∙ ap (outputs_of modes) (is-by rules hyps r rule j binds kids found d).concluded

  module _ (rule : Rule) (s : ℕ → Tree) (j : Judgement) (ps : List Premise) (env : Assignment) (f : FollowsNode modes rule s (holds j ∷ ps) env) where
    pub kid-asks : inputs_of own (judgement_instance (filled env) j) ≡ inputs_of modes (judgement_instance s j)
    kid-asks = ap (λ (m : Modes). inputs_of m (judgement_instance (filled env) j)) same_modes ∙ follows-inputs modes rule s j ps env f

    module _ (outs : List Tree) (is : outs ≡ outputs_of modes (judgement_instance s j)) where
      pub kid-gives : (more : Assignment) × (match_all (outputs_of own j) outs env ≡ Some more)
      kid-gives =
          let m = follows-outputs modes rule s j ps env f outs is in
          (m.more, ap (λ (x : Modes). match_all (outputs_of x j) outs env) same_modes ∙ m.found)

      pub kid-followed : (more : Assignment) → match_all (outputs_of own j) outs env ≡ Some more → FollowsNode modes rule s ps more
      kid-followed more e =
          matched-follows modes rule s (outputs_of modes j) outs env more ps (follows-outputs modes rule s j ps env f outs is)
          (sym (ap (λ (x : Modes). match_all (outputs_of x j) outs env) same_modes) ∙ e)

-- the terms of a node
module _ (modes : Modes) (rules : List Rule) (hyps : Hypotheses) (r : ℕ) (rule code : Rule) (same : code ≡ rule) (found : slice_get rules r ≡ Some rule) (j : Judgement) (binds : List Tree) (kids : Proofs) (d : Derives rules hyps j (by r binds kids))
    (env : Assignment) (f : FollowsNode modes rule (bound_by binds) [] env) where
  count-is : length code.sorts ≡ length rule.sorts
  count-is = ap (λ (x : Rule). length x.sorts) same

  pub node-bound : (v : ℕ) → v < length code.sorts → IsBound env v
  node-bound v l = follows-bound modes rule (bound_by binds) env f v (let c = count-is in omega (arith, c, l))

  pub node-binds : first_values (length code.sorts) (filled env) ≡ binds
  node-binds = ap (λ (n : ℕ). first_values n (filled env)) count-is ∙ follows-binds modes rule binds env f (is-by rules hyps r rule j binds kids found d).many

-- what is bound stays where terms are put into the arena
pub work-stays : (old new : List Tree) (w : Work) → Extends old new → IsWork old w → IsWork new w
work-stays old new w x h = record { binds = (envs_stay old new x w.binds h.binds).1; within = h.within }

pub bindings-stay : (old new : List Tree) (w : Work) → Extends old new → IsWork old w → bindings_of new w ≡ bindings_of old w
bindings-stay old new w x h = ap (λ (es : List Assignment). env_at es w.env) (envs_stay old new x w.binds h.binds).0

-- one reader after another
pub goes-then : (table : Table) (old mid new : Reader) → ReaderGoesOn table old mid → ReaderGoesOn table mid new → ReaderGoesOn table old new
goes-then table old mid new g h = record { reader = h.reader; extends = extends-then (terms_in old) (terms_in mid) (terms_in new) g.extends h.extends }

pub made-goes : {E : Type 0} (table : Table) (old : Reader) (arena : Arena) (r : Result (Vec ℕ Global) E) (ts : List Tree) → IsLoweringReader table old → IfOk r (λ x. AreHeld old.arena arena x.items ts) → OnOk r (ReaderGoesOn table old (record { arena = arena; images = old.images }))
made-goes table old arena (Ok x) ts r h = arena-grows table old arena r h.arena h.extends
made-goes table old arena (Err e) ts r h = tt

pub on-weaker : {T E : Type 0} (r : Result T E) (P Q : Type 0) → (P → Q) → OnOk r P → OnOk r Q
on-weaker (Ok x) P Q f h = f h
on-weaker (Err e) P Q f h = tt
