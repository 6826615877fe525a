-- Lines that may not stand at a stage.
use Rattle.std.proofs.Common.{◌≡◌, None, Result, Ok, Err, refl, sym, subst}
use Rattle.std.specs.Prelude.{IsOk, MatchResult, OnOk}
use Rattle.sx_term.specs.declared.no_memory.NoMemory.{NoMemory}
use Rattle.sx_rules.specs.Rules.{Premise}
use Rattle.sx_core.specs.Machine.{StepRefused, TakesPremise}
use Rattle.sx_core.specs.Order.{phase_of, step}
use Rattle.sx_core.specs.declared.found.Found.{Found}
use Rattle.sx_core.specs.declared.reader.Reader.{Reader}
use Rattle.sx_core.specs.declared.stage.Open.{Open}
use Rattle.sx_core.specs.declared.stage.Stage.{Stage}
use Rattle.sx_core.specs.declared.stage.Stage.TheVariants.{Start, Declaring, Between, Premising, Concluded, Over}
use Rattle.sx_core.specs.declared.step_error.StepError.{StepError}
use Rattle.sx_core.specs.declared.step_error.StepError.TheVariants.{Memory as NoRoom}
use Rattle.sx_core.specs.declared.keyword.Keyword.{Keyword}
use Rattle.sx_core.specs.declared.keyword.Keyword.TheVariants.{Sort, Con, Form, If, Not}

pub no_sort : (s : Stage) → (s ≡ Declaring → ⊥) → step (phase_of s) Sort ≡ None
no_sort Start n = refl
no_sort Declaring n = absurd (n refl)
no_sort Between n = refl
no_sort (Premising o) n = refl
no_sort (Concluded o j) n = refl
no_sort (Over g) n = refl

pub no_con : (s : Stage) → (s ≡ Declaring → ⊥) → step (phase_of s) Con ≡ None
no_con Start n = refl
no_con Declaring n = absurd (n refl)
no_con Between n = refl
no_con (Premising o) n = refl
no_con (Concluded o j) n = refl
no_con (Over g) n = refl

pub no_form : (s : Stage) → (s ≡ Declaring → ⊥) → step (phase_of s) Form ≡ None
no_form Start n = refl
no_form Declaring n = absurd (n refl)
no_form Between n = refl
no_form (Premising o) n = refl
no_form (Concluded o j) n = refl
no_form (Over g) n = refl

pub no_premise : (s : Stage) → ((o : Open) → s ≡ Premising o → ⊥) → (step (phase_of s) If ≡ None) × (step (phase_of s) Not ≡ None)
no_premise Start n = (refl, refl)
no_premise Declaring n = (refl, refl)
no_premise Between n = (refl, refl)
no_premise (Premising o) n = absurd (n o refl)
no_premise (Concluded o j) n = (refl, refl)
no_premise (Over g) n = (refl, refl)

-- a premise is refused by either of its words
pub if_refused : (old : Reader) (one : Premise) (x : Result Reader StepError) → MatchResult x (TakesPremise old one) (λ e. StepRefused old If e × StepRefused old Not e) → MatchResult x (TakesPremise old one) (StepRefused old If)
if_refused old one (Ok r) h = h
if_refused old one (Err e) h = h.0

pub not_refused : (old : Reader) (one : Premise) (x : Result Reader StepError) → MatchResult x (TakesPremise old one) (λ e. StepRefused old If e × StepRefused old Not e) → MatchResult x (TakesPremise old one) (StepRefused old Not)
not_refused old one (Ok r) h = h
not_refused old one (Err e) h = h.1

no_room : (e : NoMemory) → IsOk {T = Unit {0}} {E = NoMemory} (Err e) → ⊥
no_room e h = cc

-- a line that declares something is taken where there is room for that
pub declared_so : (old : Reader) (k : Keyword) (added : Result (Unit {0}) NoMemory) (found : Found) (Adds : Found → Type 0) (x : Result Reader StepError) → old.stage ≡ Declaring → OnOk added (Adds found) →
    MatchResult x (λ r. IsOk added × (r.found ≡ found) × (r.rules ≡ old.rules) × (r.stage ≡ Declaring)) (λ e. e ≡ NoRoom) →
    MatchResult x (λ r. (old.stage ≡ Declaring) × (r.stage ≡ Declaring) × (r.rules ≡ old.rules) × Adds r.found) (StepRefused old k)
declared_so old k (Ok u) found Adds (Ok r) at adds h = (at, h.3, h.2, subst Adds (sym h.1) adds)
declared_so old k (Err e) found Adds (Ok r) at adds h = absurd (no_room e h.0)
declared_so old k added found Adds (Err e) at adds h = subst (StepRefused old k) (sym h) tt
