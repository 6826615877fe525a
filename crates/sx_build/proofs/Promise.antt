-- `build NAME` keeps its promise.
use Rattle.std.proofs.Common.{◌≡◌, ℕ, zero, suc, List, [], ◌∷◌, ◌++◌, map, refl, sym, ap, ◌∙◌}
use Rattle.std.proofs.Common.{subst, append_assoc, arith}
use Rattle.std.specs.Prelude.{Ok, Contains}
use Rattle.std.specs.List.{AllByRecursion}
use Rattle.std.proofs.lemmas.List.{map-append}
use Rattle.sx_audit.specs.Meaning.{Meaning}
use Rattle.sx_extcheck.specs.declared.budgets.Budgets.{Budgets}
use Rattle.sx_outside.specs.Files.{Files, after_writes}
use Rattle.sx_steps.specs.Steps.{Untried}
use Rattle.sx_steps.specs.Unit.{base_file, list_file, interface_file}
use Rattle.sx_steps.specs.Work.{Plan}
use Rattle.sx_steps.proofs.Ones.{ok_same}
use Rattle.sx_steps.proofs.StepsOn.{went_on}
use Rattle.sx_walking.specs.Laws.{AllComeAfter}
use Rattle.sx_walking.specs.Opened.{AreOnce}
use Rattle.sx_accepting.specs.ReadLanguage.{Stated, ReadsLanguage}
use Rattle.sx_auditing.proofs.Once.{all-front}
use Rattle.sx_headers.specs.ReadModule.{Module}
use Rattle.sx_closure.specs.ReadModules.{module_name, imports_of, ReadsModules}
use Rattle.sx_closure.proofs.Closing.{are_closure}
use Rattle.sx_build.specs.BuildModules.{BuildProgress, none_made, MakesAfter, whole_plan, language_in}
use Rattle.sx_build.specs.BuildModules.{BuildsOver, BuildsRead}
use Rattle.sx_build.specs.BuiltModules.{AreModulesBuilt, HoldsTexts, IsNoFileOf, BuiltModules}
use Rattle.sx_build.specs.BuiltModules.{BuildsKeepPromise}
use Rattle.sx_build.specs.MadeModules.{Made, with_made}
use Rattle.sx_build.proofs.Languages.{HasBytes, have_language, has_bytes}
use Rattle.sx_build.proofs.MadeFiles.{stays, base_stands, list_stands, interface_stands}
use Rattle.sx_build.proofs.MadeInOrder.{AreMade, all_more, made_named}
use Rattle.sx_compiling.proofs.Members.{contains_more, all_by, all_at}
use Rattle.sx_build.proofs.Once.{names_once, front_once}
use Rattle.sx_build.proofs.ReadAgain.{imports_again}

-- ---- the files

module _ (made : List Made) (old new : Files) (once : AreOnce (map (λ x. x.name) made))
    (is : new ≡ with_made made old) where
  holds_one : (m : Made) → Contains made m → HoldsTexts new m
  holds_one m among = record {
    base = ap (λ (fs : Files). fs (base_file m.name)) is ∙ base_stands made old m once among;
    list = ap (λ (fs : Files). fs (list_file m.name)) is ∙ list_stands made old m once among;
    interface = ap (λ (fs : Files). fs (interface_file m.name)) is
        ∙ interface_stands made old m once among;
  }

  holds_all : AllByRecursion (HoldsTexts new) made
  holds_all = all_by (HoldsTexts new) made holds_one

  others_stay : (file : List ℕ) → AllByRecursion (IsNoFileOf file) made → new file ≡ old file
  others_stay file none =
      ap (λ (fs : Files). fs file) is
      ∙ stays made old file none

-- ---- the interfaces of imports

-- one of these has the name
record HasNamed (name : List ℕ) (made : List Made) : Type 0 where
  own : Made
  among : Contains made own
  named : own.name ≡ name

made_so : (made : List Made) (name : List ℕ) → Contains (map (λ x. x.name) made) name →
    HasNamed name made
made_so [] name (k, below, same) = absurd (omega (arith, below))
made_so (x ∷ made) name (zero, below, same) =
    record { own = x; among = (0, omega arith, refl); named = same }
made_so (x ∷ made) name (suc k, below, same) =
    let more = made_so made name (k, omega (arith, below), same) in
    record {
      own = more.own;
      among = contains_more x made more.own more.among;
      named = more.named;
    }

module _ (budgets : Budgets) (old new : Files) (l : Stated) (whole : List Module)
    (order : AllComeAfter module_name imports_of whole) (all : List Made)
    (holds : AllByRecursion (HoldsTexts new) all) where
  -- those before are made, and these are left
  record AreLeft (done ms : List Module) (before made : List Made) : Type 0 where
    modules : whole ≡ done ++ ms
    mades : all ≡ before ++ made
    named : map (λ x. x.name) before ≡ map module_name done

  -- what a module before holds is there in the end
  holds_same : (done ms : List Module) (before made : List Made) →
      AreLeft done ms before made → (name : List ℕ) → Contains (map module_name done) name →
      with_made before old (interface_file name) ≡ new (interface_file name)
  holds_same done ms before made left name among =
      let has = made_so before name
      (subst (λ (ns : List (List ℕ)). Contains ns name) (sym left.named) among) in
      let x = has.own in
      let once = subst (λ (ns : List (List ℕ)). AreOnce ns) (sym left.named)
      (front_once whole done ms left.modules order) in
      let stands = interface_stands before old x once has.among in
      let there = all_at (HoldsTexts new) before x
      (all-front (HoldsTexts new) before made
      (subst (λ (xs : List Made). AllByRecursion (HoldsTexts new) xs) left.mades holds))
      has.among in
      subst (λ (n : List ℕ). with_made before old (interface_file n) ≡ new (interface_file n))
      has.named (stands ∙ sym there.interface)

  next_left : (done ms : List Module) (before made : List Made) (m : Module) (x : Made) →
      x.name ≡ module_name m → AreLeft done (m ∷ ms) before (x ∷ made) →
      AreLeft (done ++ m ∷ []) ms (before ++ x ∷ []) made
  next_left done ms before made m x same left = record {
    modules = left.modules ∙ sym (append_assoc done (m ∷ []) ms);
    mades = left.mades ∙ sym (append_assoc before (x ∷ []) made);
    named = map-append (λ y. y.name) before (x ∷ [])
        ∙ (λ i. left.named i ++ same i ∷ []) ∙ sym (map-append module_name done (m ∷ []));
  }

  built_by : (done ms : List Module) (before made : List Made) (from to : List Meaning) →
      AreLeft done ms before made → AreMade budgets old l before from to ms made →
      AreModulesBuilt budgets old new l from to ms made
  built_by done [] before [] from to left h = h
  built_by done (m ∷ ms) before (x ∷ made) from to left (next, one, rest) = (
    next,
    record {
      imports = one.imports;
      reads = imports_again (with_made before old) new m.header.imports one.imports
          (λ name among. holds_same done (m ∷ ms) before (x ∷ made) left name
          ((order done ms m left.modules).after_them name among)) one.reads;
      unit = one.unit;
      compiled = one.compiled;
      is = one.is;
      shown = one.shown;
    },
    built_by (done ++ m ∷ []) ms (before ++ x ∷ []) made next to
        (next_left done ms before made m x (ap (λ (y : Made). y.name) one.is) left) rest,
  )
  built_by done (m ∷ ms) before [] from to left h = absurd h
  built_by done [] before (x ∷ made) from to left h = absurd h

-- ---- the command

module _ (name : List ℕ) (budgets : Budgets) (auditors : List Meaning) (old new : Files)
    (ms : List Module) (reads : ReadsModules name old (Ok ms)) (l : Stated)
    (states : ReadsLanguage (language_in ms) old (Ok l)) where
  bytes : HasBytes (language_in ms) l
  bytes = has_bytes (language_in ms) old l states

  -- what was made so far, as the end
  abbrev end_of : List Made → List Meaning → BuildProgress
  end_of made left = record { made = made; auditors = left }

  -- where these were built, and the plan is theirs
  kept_by : (made : List Made) (left : List Meaning) (plan : Plan) →
      AreMade budgets old l [] auditors left ms made → plan ≡ whole_plan (end_of made left) →
      new ≡ after_writes plan.files old → BuiltModules name budgets auditors old new plan.lines
  kept_by made left plan makes is files_are =
      let closure = (are_closure name old ms reads).0 in
      let names = made_named budgets old (language_in ms) l bytes [] auditors left ms made makes in
      let once : AreOnce (map (λ x. x.name) made) =
      subst (λ (ns : List (List ℕ)). AreOnce ns) (sym names) (names_once ms closure.order) in
      let files : new ≡ with_made made old =
      files_are ∙ ap (λ (p : Plan). after_writes p.files old) is in
      let holds = holds_all made old new once files in
      record {
        modules = ms;
        reads = reads;
        closure = closure;
        language = l;
        states = states;
        made = made;
        left = left;
        built = built_by budgets old new l ms closure.order made holds [] ms [] made auditors left
            (record { modules = refl; mades = refl; named = refl }) makes;
        files = holds;
        others = others_stay made old new once files;
        told = ap (λ (p : Plan). p.lines) is;
      }

  -- where all were made so
  made_by : (end : BuildProgress) (plan : Plan) (tries : ℕ) →
      MakesAfter budgets old l (none_made auditors) ms (Ok end) tries → plan ≡ whole_plan end →
      new ≡ after_writes plan.files old → BuiltModules name budgets auditors old new plan.lines
  made_by end plan tries makes planned files_are =
      let more = all_more budgets old (language_in ms) l bytes (none_made auditors) ms end tries
      (have_language name old ms reads) makes in
      kept_by more.made end.auditors plan more.built
      (planned ∙ ap (λ (made : List Made). whole_plan (end_of made end.auditors)) more.is)
      files_are

pub builds_keep_promise : BuildsKeepPromise
builds_keep_promise name budgets auditors old new plan tries builds files_are =
    let read = went_on (Untried (ReadsModules name old)) (BuildsRead budgets auditors old) plan
    tries builds in
    let ms = read.given in
    let stated = went_on (Untried (ReadsLanguage (language_in ms) old))
    (BuildsOver budgets auditors old ms) plan read.after read.goes in
    let l = stated.given in
    let all = went_on (MakesAfter budgets old l (none_made auditors) ms)
    (λ end. Untried (λ result. result ≡ Ok (whole_plan end))) plan stated.after stated.goes in
    made_by name budgets auditors old new ms read.begins.0 l stated.begins.0 all.given plan
    all.before all.begins (ok_same plan (whole_plan all.given) all.goes.0) files_are
