-- The files of an order.
use Rattle.std.proofs.Common.{◌≡◌, ℕ, suc, ◌+◌, ◌<◌, List, [], ◌∷◌, ◌++◌, length, map, drop, get_or}
use Rattle.std.proofs.Common.{refl, ap, sym, ◌∙◌, subst, append_assoc, arith}
use Rattle.std.proofs.Math.Seq.{drop-cons}
use Rattle.std.specs.Prelude.{Option, Some, None, Ok, Err, option_map, Contains, IsSome}
use Rattle.std.specs.List.{AllByRecursion}
use Rattle.std.specs.Global.{Vec}
use Rattle.std.proofs.lemmas.List.{append-nil}
use Rattle.std.proofs.lemmas.List.Elements.{Contains-append_right}
use Rattle.sx_outside.specs.Files.{Files}
use Rattle.sx_outside.specs.Told.{WhereTold}
use Rattle.sx_imports.specs.Walk.{Name, Imports, Walks}
use Rattle.sx_imports.specs.Laws.{IsImportsFirst}
use Rattle.sx_imports.proofs.Lists.{split, in_first, in_rest, in_as}
use Rattle.sx_imports.proofs.Wholes.{order_is_whole}
use Rattle.sx_steps.specs.Stop.{Gives}
use Rattle.sx_steps.specs.declared.step_error.StepError.{StepError}
use Rattle.sx_steps.specs.declared.step_error.StepError.TheVariants as errors
use Rattle.sx_steps.proofs.Ones.{none_some}
use Rattle.sx_walking.specs.Reached.{Found, AreVisitsFound}
use Rattle.sx_walking.specs.Kinds.{WalkKind, Visits, ReachesBy, IsFileSound, AreFilesReached}
use Rattle.sx_walking.specs.FileTable.{seen_as, IsFileTaken}
use Rattle.sx_walking.specs.Opened.{AreOpened, found_in, imports_for, AreOnce, AreFilesHeld}
use Rattle.sx_walking.specs.Turns.{AreFilesWalked}
use Rattle.sx_walking.proofs.Tables.{is_there, some_seen}
use Rattle.sx_walking.proofs.Visits.{found_held}

-- ---- what an order holds

once_from : (imports : Imports) (whole front rest : List Name) → whole ≡ front ++ rest →
    IsImportsFirst imports whole → AreOnce rest
once_from imports whole front [] e first = tt
once_from imports whole front (name ∷ names) e first = (
  λ h.
      let s = split names name h in
      let is : whole ≡ front ++ (name ∷ s.before) ++ name ∷ s.after =
      e ∙ ap (λ (l : List Name). front ++ name ∷ l) s.is
      ∙ sym (append_assoc front (name ∷ s.before) (name ∷ s.after)) in
      (first (front ++ name ∷ s.before) s.after name is).once
      (Contains-append_right front (name ∷ s.before) name (in_first name s.before)),
  once_from imports whole (front ++ name ∷ []) names
      (e ∙ sym (append_assoc front (name ∷ []) names)) first,
)

module _ {A : Type 0} (k : WalkKind A) where
  -- something is found under each name
  abbrev pub AllFound : Found A → List Name → Type 0
  AllFound found [] = Unit {0}
  AllFound found (name ∷ names) = ((x : A) × (found name ≡ Some x)) × AllFound found names

  found_one : (o : Option A) (lines : List Name) → option_map k.stands_on o ≡ Some lines →
      (x : A) × (o ≡ Some x)
  found_one None lines e = absurd (none_some lines e)
  found_one (Some x) lines e = (x, refl)

  found_from : (found : Found A) (whole front rest : List Name) → whole ≡ front ++ rest →
      IsImportsFirst (λ name. option_map k.stands_on (found name)) whole → AllFound found rest
  found_from found whole front [] e first = tt
  found_from found whole front (name ∷ names) e first =
      let after = first front names name e in (
        found_one (found name) after.lines after.is,
        found_from found whole (front ++ name ∷ []) names
            (e ∙ sym (append_assoc front (name ∷ []) names)) first,
      )

  held_all : (held : Found A) (names : List Name) → AllFound (found_in k held) names →
      AreFilesHeld held names
  held_all held [] h = tt
  held_all held (name ∷ names) h = (
    is_there (held name) h.0.0 (found_held k h.0.0 (held name) h.0.1).0,
    held_all held names h.1,
  )

  same_found : (held : Found A) (names : List Name) → AllFound (found_in k held) names →
      map (found_in k held) names ≡ map held names
  same_found held [] h = refl
  same_found held (name ∷ names) h =
      let one : found_in k held name ≡ held name =
      h.0.1 ∙ sym (found_held k h.0.0 (held name) h.0.1).0 in
      let more = same_found held names h.1 in
      λ i. one i ∷ more i

  module _ (held : Found A) (roots order : List Name)
      (walks : Walks (imports_for k held) 256 roots (Ok order)) where
    pub order_once : AreOnce order
    order_once = once_from (imports_for k held) order [] order refl
        (order_is_whole (imports_for k held) 256 roots order walks).0

    pub order_found : AllFound (found_in k held) order
    order_found = found_from (found_in k held) order [] order refl
        (order_is_whole (imports_for k held) 256 roots order walks).0

    pub order_held : AreFilesHeld held order
    order_held = held_all held order order_found

-- ---- files as plain data

module _ {F A : Type 0} (says : F → A) (held : Found F) where
  some_held : (o : Option F) → IsSome (option_map says o) → IsSome o
  some_held o h = some_seen says o ∙ h

  pub files_held : (names : List Name) → AreFilesHeld (seen_as says held) names → AreFilesHeld held names
  files_held [] h = tt
  files_held (name ∷ names) h = (some_held (held name) h.0, files_held names h.1)

  pub taken_seen : (names : List Name) (taken : List F) → map Some taken ≡ map held names →
      map Some (map says taken) ≡ map (seen_as says held) names
  taken_seen [] [] e = refl
  taken_seen [] (x ∷ xs) e = absurd cc
  taken_seen (name ∷ names) [] e = absurd cc
  taken_seen (name ∷ names) (x ∷ xs) e =
      let head : Some x ≡ held name = cc in
      let tail : map Some xs ≡ map held names = cc in
      let one = ap (λ (o : Option F). option_map says o) head in
      let more = taken_seen names xs tail in
      λ i. one i ∷ more i

-- ---- taking files out of a table

module _ {F : Type 0} where
  -- the same is held under these names
  abbrev pub SameOn : (one other : Found F) → List Name → Type 0
  SameOn one other [] = Unit {0}
  SameOn one other (name ∷ names) = (one name ≡ other name) × SameOn one other names

  pub same_self : (held : Found F) (names : List Name) → SameOn held held names
  same_self held [] = tt
  same_self held (name ∷ names) = (refl, same_self held names)

  pub same_taken : (name : Name) (old new held : Found F) (names : List Name) →
      IsFileTaken name old new → ¬ (Contains names name) → SameOn old held names →
      SameOn new held names
  same_taken name old new held [] taken apart s = tt
  same_taken name old new held (other ∷ names) taken apart s = (
    taken other (λ e. apart (in_as (other ∷ names) other name (sym e) (in_first other names)))
        ∙ s.0,
    same_taken name old new held names taken (λ h. apart (in_rest other names name h)) s.1,
  )

  more_taken : (files : List F) (file : F) →
      map Some (files ++ file ∷ []) ≡ map Some files ++ Some file ∷ []
  more_taken [] file = refl
  more_taken (first ∷ files) file =
      ap (λ (l : List (Option F)). Some first ∷ l) (more_taken files file)

-- what was taken so far, with what is still to be taken, is all of it
pub record IsTaking {F : Type 0} (all now : Found F) (order rest : List Name)
    (taken : List F) : Type 0 where
  pub whole : map Some taken ++ map all rest ≡ map all order
  pub same : SameOn now all rest
  pub once : AreOnce rest
  pub held : AreFilesHeld all rest

pub takes_start : {F : Type 0} (all : Found F) (order : List Name) (taken : List F) → taken ≡ [] →
    AreOnce order → AreFilesHeld all order → IsTaking all all order order taken
takes_start all order taken e once held =
    subst (λ (l : List _). IsTaking all all order order l) (sym e)
    (record { whole = refl; same = same_self all order; once = once; held = held })

module _ {F : Type 0} (all now : Found F) (order rest : List Name) (name : Name) (taken : List F)
    (t : IsTaking all now order (name ∷ rest) taken) where
  takes_next : (new : Found F) (file : F) → Some file ≡ now name → IsFileTaken name now new →
      IsTaking all new order rest (taken ++ file ∷ [])
  takes_next new file is gone =
      let here : Some file ≡ all name = is ∙ t.same.0 in
      record {
        whole = ap (λ (l : List (Option F)). l ++ map all rest) (more_taken taken file)
            ∙ append_assoc (map Some taken) (Some file ∷ []) (map all rest)
            ∙ ap (λ (o : Option F). map Some taken ++ o ∷ map all rest) here ∙ t.whole;
        same = same_taken name now new all rest gone t.once.0 t.same.1;
        once = t.once.1;
        held = t.held.1;
      }

-- the next name, and those after it
drop_next : (order : List Name) (i : ℕ) (name : Name) → i < length order →
    name ≡ get_or order i name → drop i order ≡ name ∷ drop (i + 1) order
drop_next order i name below is =
    let next : suc i ≡ i + 1 = omega arith in
    drop-cons order i name below
    ∙ ap (λ (n : Name). n ∷ drop (suc i) order) (sym is)
    ∙ ap (λ (n : ℕ). name ∷ drop n order) next

pub takes_more : {F : Type 0} (all now new : Found F) (order : List Name) (i : ℕ) (name : Name)
    (taken more : List F) (file : F) → i < length order → name ≡ get_or order i name →
    IsTaking all now order (drop i order) taken → Some file ≡ now name → IsFileTaken name now new →
    more ≡ taken ++ file ∷ [] → IsTaking all new order (drop (i + 1) order) more
takes_more all now new order i name taken more file below is t at gone grown =
    subst (λ (l : List _). IsTaking all new order (drop (i + 1) order) l) (sym grown)
    (takes_next all now order (drop (i + 1) order) name taken
    (subst (λ (l : List Name). IsTaking all now order l taken) (drop_next order i name below is) t)
    new file at gone)

pub takes_end : {F : Type 0} (all now : Found F) (order rest : List Name) (taken : List F) →
    rest ≡ [] → IsTaking all now order rest taken → map Some taken ≡ map all order
takes_end all now order rest taken e t =
    sym (append-nil (map Some taken))
    ∙ ap (λ (l : List Name). map Some taken ++ map all l) (sym e) ∙ t.whole

-- ---- the step

module _ {A : Type 0} (k : WalkKind A) (told : Option Files) where
  stated_all : (held : Found A) → AreOpened k told held → (order : List Name) (xs : List A) →
      map Some xs ≡ map held order → AllByRecursion k.IsStated xs
  stated_all held are order [] e = tt
  stated_all held are [] (x ∷ xs) e = absurd cc
  stated_all held are (name ∷ names) (x ∷ xs) e =
      let head : Some x ≡ held name = cc in
      let tail : map Some xs ≡ map held names = cc in
      ((are name x (sym head)).stated, stated_all held are names xs tail)

  visits_found : (held : Found A) → AreOpened k told held → (files : Files) →
      told ≡ Some files → AreVisitsFound (Visits k files) (found_in k held)
  visits_found held are files t = λ name x h.
      let f = found_held k x (held name) h in
      record { given = Ok x; begins = (are name x f.0).read files t; goes = (f.1, refl) }

  sound_found : (held : Found A) → AreOpened k told held → AreVisitsFound (IsFileSound k) (found_in k held)
  sound_found held are = λ name x h.
      let f = found_held k x (held name) h in
      let o = are name x f.0 in
      (o.named, f.1, o.stated)

  module _ (file : List ℕ) (roots : List Name) (held : Found A) where
    pub read_sound : (order : Vec Name) (xs : List A) → AreFilesWalked k told file roots held (Ok order) →
        map Some xs ≡ map held order.items → AreFilesReached k file roots xs
    read_sound order xs w e = record {
      found = found_in k held;
      visited = sound_found held w.0;
      end = Ok order.items;
      walks = w.1;
      told = same_found k held order.items (order_found k held roots order.items w.1) ∙ sym e;
    }

    pub read_whole : (order : Vec Name) (xs : List A) → AreFilesWalked k told file roots held (Ok order) →
        map Some xs ≡ map held order.items →
        WhereTold told (λ files. ReachesBy k file roots files (Ok xs))
    read_whole order xs w e = λ files t. record {
      found = found_in k held;
      visited = visits_found held w.0 files t;
      end = Ok order.items;
      walks = w.1;
      told = same_found k held order.items (order_found k held roots order.items w.1) ∙ sym e;
    }

    pub whole_stated : (order : Vec Name) (xs : List A) →
        AreFilesWalked k told file roots held (Ok order) → map Some xs ≡ map held order.items →
        AllByRecursion k.IsStated xs
    whole_stated order xs w e = stated_all held w.0 order.items xs e

    pub read_stop : {F : Type 0} (says : F → A) (e : StepError) →
        AreFilesWalked k told file roots held (Err e) →
        WhereTold told (λ files. Gives (λ (xs : Vec F). map says xs.items)
        (ReachesBy k file roots files) (Err e))
    read_stop says errors.Memory w = λ files t. tt
    read_stop says (errors.Stopped stop) w = λ files t. record {
      found = found_in k held;
      visited = visits_found held w.0 files t;
      end = Err w.1.why;
      walks = w.1.walks;
      told = w.1.answered files t;
    }
