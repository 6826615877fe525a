-- By the files there is one result of a walk, where reading a file has one.
use Rattle.std.proofs.Common.{◌≡◌, ℕ, List, [], ◌∷◌, ◌++◌, map, refl, ap, sym, ◌∙◌, subst}
use Rattle.std.specs.Prelude.{Option, Some, None, Result, Ok, Err, option_map, codes}
use Rattle.std.proofs.lemmas.Bool.{true≢false}
use Rattle.sx_outside.specs.Files.{Files}
use Rattle.sx_imports.specs.Walk.{Name, Imports, missing, cycle, too_many, End, leaving, Meets}
use Rattle.sx_imports.specs.Walk.{comes_round, was_left, is_missing, is_past, is_entered, WalkGoes}
use Rattle.sx_imports.specs.Walk.{all_met, stops, goes_on, Walks}
use Rattle.sx_imports.proofs.Ends.{one_end}
use Rattle.sx_words.specs.Lines.{line_text}
use Rattle.sx_words.specs.RefusalText.{joined, names_text}
use Rattle.sx_steps.specs.Agree.{IsNoReadFault, IsSure, AnswersBy}
use Rattle.sx_steps.specs.Stop.{Gives}
use Rattle.sx_steps.specs.Refusal.{status_of, line_of}
use Rattle.sx_steps.specs.declared.stop.Stop.{Stop}
use Rattle.sx_steps.specs.declared.step_error.StepError.{StepError}
use Rattle.sx_steps.specs.declared.step_error.StepError.TheVariants as errors
use Rattle.sx_steps.proofs.Ones.{IsOne, as_answer, then_one, ok_same, err_same, ok_no_err}
use Rattle.sx_steps.proofs.Ones.{none_some}
use Rattle.sx_walking.specs.Reached.{TellsCycle, Found, uses_in, AreVisitsFound, IsWalkTold}
use Rattle.sx_walking.specs.Reached.{Reaches}
use Rattle.sx_walking.specs.Kinds.{WalkKind, FileFits, Visits}
use Rattle.sx_walking.specs.Laws.{AnswerAlike, ReadsOne, WalksAgree}

-- ---- walks by more that is known

-- where the walk stops at a name, that name is unknown there too
abbrev StillStops : Imports → End → Type 0
StillStops wider (Ok left) = Unit {0}
StillStops wider (Err (missing name)) = wider name ≡ None
StillStops wider (Err (cycle names)) = Unit {0}
StillStops wider (Err too_many) = Unit {0}

still_left : (wider : Imports) (name : Name) (end : End) → StillStops wider (leaving name end) →
    StillStops wider end
still_left wider name (Ok left) s = tt
still_left wider name (Err stop) s = s

module _ (imports wider : Imports) (most : ℕ)
    (more : (name : Name) (lines : List Name) → imports name ≡ Some lines →
    wider name ≡ Some lines) where
  mutual
    meets_wider : {path left : List Name} {name : Name} {end : End} →
        Meets imports most path left name end → StillStops wider end →
        Meets wider most path left name end
    meets_wider (comes_round h) s = comes_round h
    meets_wider (was_left h k) s = was_left h k
    meets_wider (is_missing h k i) s = is_missing h k s
    meets_wider {name = name} (is_past {below = below} h k i f) s =
        is_past h k (more name below i) f
    meets_wider {name = name} (is_entered {below = below} {end = end} h k i room d) s =
        is_entered h k (more name below i) room (goes_wider d (still_left wider name end s))

    goes_wider : {path left names : List Name} {end : End} →
        WalkGoes imports most path left names end → StillStops wider end →
        WalkGoes wider most path left names end
    goes_wider all_met s = all_met
    goes_wider (stops d) s = stops (meets_wider d s)
    goes_wider (goes_on d r) s = goes_on (meets_wider d tt) (goes_wider r s)

-- ---- what is found by one or the other

abbrev either : {A : Type 0} → Option A → Option A → Option A
either (Some x) other = Some x
either None other = other

none_of : {A : Type 0} (o : Option A) → ((x : A) → o ≡ Some x → ⊥) → o ≡ None
none_of None never = refl
none_of (Some x) never = absurd (never x refl)

module _ {A : Type 0} (uses : A → List Name) where
  first_more : (one other : Option A) (lines : List Name) → option_map uses one ≡ Some lines →
      option_map uses (either one other) ≡ Some lines
  first_more None other lines h = absurd (none_some lines h)
  first_more (Some x) other lines h = h

  second_more : (one other : Option A) (lines : List Name) →
      ((x y : A) → one ≡ Some x → other ≡ Some y → x ≡ y) →
      option_map uses other ≡ Some lines → option_map uses (either one other) ≡ Some lines
  second_more None other lines same h = h
  second_more (Some x) None lines same h = absurd (none_some lines h)
  second_more (Some x) (Some y) lines same h =
      ap (λ (z : A). Some (uses z)) (same x y refl refl) ∙ h

  neither : (one other : Option A) → one ≡ None → other ≡ None →
      option_map uses (either one other) ≡ None
  neither None other e f = ap (λ (o : Option A). option_map uses o) f
  neither (Some x) other e f = absurd (none_some x (sym e))

-- ---- stops

pub alike_same : (s t : Stop) → s ≡ t → AnswerAlike s t
alike_same s t e = record { status = ap status_of e; line = ap line_of e }

cycles_alike : (file : List ℕ) (names : List Name) (s t : Stop) → TellsCycle file names s →
    TellsCycle file names t → AnswerAlike s t
cycles_alike file names s t h k = record {
  status = ap status_of h.is ∙ sym (ap status_of k.is);
  line = ap line_of h.is
      ∙ ap (λ (l : List Name). line_text file (joined (codes "cycle" ∷ []) ++ names_text l))
      (h.same ∙ sym k.same) ∙ sym (ap line_of k.is);
}

-- ---- what is reached

module _ {A : Type 0} (uses : A → List Name) (Comes : Name → Result A Stop → Type 0)
    (one : (name : Name) → IsOne (Comes name)) (file : List ℕ) (roots : List Name) where
  not_found : (found : Found A) → AreVisitsFound Comes found → (name : Name) (stop : Stop) →
      Comes name (Err stop) → IsNoReadFault {A = A} (Err stop) → found name ≡ None
  not_found found are name stop h sure = none_of (found name)
      (λ x is. ok_no_err x stop (one name (Ok x) (Err stop) (are name x is) h tt sure))

  module _ (found other : Found A) (are : AreVisitsFound Comes found) (too : AreVisitsFound Comes other) where
    abbrev both : Found A
    both = λ name. either (found name) (other name)

    same_value : (name : Name) (x y : A) → found name ≡ Some x → other name ≡ Some y → x ≡ y
    same_value name x y h k =
        ok_same x y (one name (Ok x) (Ok y) (are name x h) (too name y k) tt tt)

    -- both walks stop at a name only where it is unknown to both
    still : (some : Found A) (end : End) (x : Result (List A) Stop) →
        IsWalkTold Comes file some end x → IsNoReadFault x → StillStops (uses_in uses both) end
    still some (Ok order) x told sure = tt
    still some (Err (missing name)) (Ok values) told sure = absurd told
    still some (Err (missing name)) (Err stop) told sure =
        neither uses (found name) (other name) (not_found found are name stop told sure)
        (not_found other too name stop told sure)
    still some (Err (cycle names)) x told sure = tt
    still some (Err too_many) x told sure = tt

    same_values : (order : List Name) (xs ys : List A) → map found order ≡ map Some xs →
        map other order ≡ map Some ys → xs ≡ ys
    same_values [] [] [] e f = refl
    same_values [] (x ∷ xs) ys e f = absurd cc
    same_values [] [] (y ∷ ys) e f = absurd cc
    same_values (name ∷ names) [] ys e f = absurd cc
    same_values (name ∷ names) (x ∷ xs) [] e f = absurd cc
    same_values (name ∷ names) (x ∷ xs) (y ∷ ys) e f =
        let a : found name ≡ Some x = cc in
        let b : other name ≡ Some y = cc in
        let c : map found names ≡ map Some xs = cc in
        let d : map other names ≡ map Some ys = cc in
        let head = same_value name x y a b in
        let tail = same_values names xs ys c d in
        λ i. head i ∷ tail i

    told_alike : (end : End) (x y : Result (List A) Stop) → IsWalkTold Comes file found end x →
        IsWalkTold Comes file other end y → IsNoReadFault x → IsNoReadFault y →
        AnswersBy AnswerAlike (as_answer x) (as_answer y)
    told_alike (Ok order) (Ok xs) (Ok ys) h k n m = same_values order xs ys h k
    told_alike (Ok order) (Err s) y h k n m = absurd h
    told_alike (Ok order) (Ok xs) (Err t) h k n m = absurd k
    told_alike (Err why) (Ok xs) y h k n m = absurd h
    told_alike (Err why) (Err s) (Ok ys) h k n m = absurd k
    told_alike (Err (missing name)) (Err s) (Err t) h k n m =
        alike_same s t (err_same s t (one name (Err s) (Err t) h k n m))
    told_alike (Err (cycle names)) (Err s) (Err t) h k n m = cycles_alike file names s t h k
    told_alike (Err too_many) (Err s) (Err t) h k n m = alike_same s t (h ∙ sym k)

  pub reaches_alike : (x y : Result (List A) Stop) → Reaches uses Comes file roots x →
      Reaches uses Comes file roots y → IsNoReadFault x → IsNoReadFault y →
      AnswersBy AnswerAlike (as_answer x) (as_answer y)
  reaches_alike x y h k n m =
      let wider = uses_in uses (both h.found k.found h.visited k.visited) in
      let one_walk : Walks wider 256 roots h.end =
      goes_wider (uses_in uses h.found) wider 256
      (λ name lines is. first_more uses (h.found name) (k.found name) lines is) h.walks
      (still h.found k.found h.visited k.visited h.found h.end x h.told n) in
      let other_walk : Walks wider 256 roots k.end =
      goes_wider (uses_in uses k.found) wider 256
      (λ name lines is. second_more uses (h.found name) (k.found name) lines
      (same_value h.found k.found h.visited k.visited name) is) k.walks
      (still h.found k.found h.visited k.visited k.found k.end y k.told m) in
      let same : h.end ≡ k.end = one_end wider 256 roots h.end k.end one_walk other_walk in
      told_alike h.found k.found h.visited k.visited k.end x y
      (subst (λ (e : End). IsWalkTold Comes file h.found e x) same h.told) k.told n m

  -- so of what the code's step answers
  abbrev Answers : Result (List A) StepError → Type 0
  Answers x = Gives (λ xs. xs) (Reaches uses Comes file roots) x

  pub answers_alike : (x y : Result (List A) StepError) → Answers x → Answers y → IsSure x →
      IsSure y → AnswersBy AnswerAlike x y
  answers_alike (Ok xs) (Ok ys) h k n m = reaches_alike (Ok xs) (Ok ys) h k tt tt
  answers_alike (Ok xs) (Err (errors.Stopped t)) h k n m = reaches_alike (Ok xs) (Err t) h k tt m
  answers_alike (Err (errors.Stopped s)) (Ok ys) h k n m = reaches_alike (Err s) (Ok ys) h k n tt
  answers_alike (Err (errors.Stopped s)) (Err (errors.Stopped t)) h k n m =
      reaches_alike (Err s) (Err t) h k n m
  answers_alike (Err errors.Memory) y h k n m = absurd n
  answers_alike (Ok xs) (Err errors.Memory) h k n m = absurd m
  answers_alike (Err (errors.Stopped s)) (Err errors.Memory) h k n m = absurd m

-- ---- kinds

module _ {A : Type 0} (k : WalkKind A) where
  fits_one : (name : Name) (given : A) → IsOne (FileFits k name given)
  fits_one name given (Ok x) (Ok y) h j n m = ap Ok (h.1 ∙ sym j.1)
  fits_one name given (Ok x) (Err t) h j n m = absurd (true≢false (sym h.0 ∙ j.0))
  fits_one name given (Err s) (Ok y) h j n m = absurd (true≢false (sym j.0 ∙ h.0))
  fits_one name given (Err s) (Err t) h j n m = ap Err (h.1 ∙ sym j.1)

  visits_one : (files : Files) → ReadsOne k files → (name : Name) → IsOne (Visits k files name)
  visits_one files one name =
      then_one (k.Reads files name) (FileFits k name) (one name) (λ given reads. fits_one name given)

  pub walks_alike : WalksAgree k
  walks_alike files one file roots x y h j n m =
      answers_alike k.stands_on (Visits k files) (visits_one files one) file roots x y h j n m
