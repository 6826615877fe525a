-- How many tries `build NAME` makes at most.
use Rattle.std.proofs.Common.{◌≡◌, ℕ, suc, ◌+◌, ◌*◌, ◌≤◌, List, [], ◌∷◌, length}
use Rattle.std.proofs.Common.{subst, sym, suc-mul, zero-mul, arith}
use Rattle.std.specs.Prelude.{Result, Ok, Err}
use Rattle.std.proofs.lemmas.Nat.{mul-le}
use Rattle.sx_audit.specs.Meaning.{Meaning}
use Rattle.sx_extcheck.specs.declared.budgets.Budgets.{Budgets}
use Rattle.sx_outside.specs.Files.{Files}
use Rattle.sx_steps.specs.declared.step_error.StepError.{StepError}
use Rattle.sx_steps.specs.Steps.{NoTries, GoesOn, AndThen}
use Rattle.sx_steps.specs.Work.{Plan}
use Rattle.sx_accepting.specs.ReadLanguage.{ReadsLanguage}
use Rattle.sx_headers.specs.ReadModule.{Module}
use Rattle.sx_importing.specs.ReadImports.{ReadsImports}
use Rattle.sx_compiling.specs.Laws.{UnitsWalksAreWithin as UnitsWithin}
use Rattle.sx_compiling.specs.MakeUnit.{MakesUnit}
use Rattle.sx_compiling.proofs.StepTries.{Most, trying_most, untried_most, most_untried, passed}
use Rattle.sx_closure.specs.Closures.{HaveLanguage}
use Rattle.sx_closure.specs.ReadModules.{ReadsModules}
use Rattle.sx_closure.proofs.Closing.{are_closure}
use Rattle.sx_build.specs.BuildModules.{BuildProgress, none_made, given_in, ShowsUnit, MakesWith}
use Rattle.sx_build.specs.BuildModules.{MakesNext}
use Rattle.sx_build.specs.BuildModules.{MakesAfter, whole_plan, language_in, BuildsOver, BuildsRead}
use Rattle.sx_build.specs.BuildModules.{BuildsModule}
use Rattle.sx_build.specs.Laws.{IsClosureFound, BuildWalksAreWithin}
use Rattle.sx_build.specs.MadeModules.{with_made}
use Rattle.sx_build.proofs.Languages.{HasBytes, have_language, has_bytes, given_language}

-- ---- steps

module _ {A B : Type 0} (first : Result A StepError → ℕ → Type 0)
    (next : A → Result B StepError → ℕ → Type 0) (some more : ℕ) (few : Most first some)
    (rest : (given : A) → Most (next given) more) where
  sum_by : (given : Result A StepError) (result : Result B StepError) (before after tries : ℕ) →
      first given before → GoesOn next given result after → tries ≡ before + after →
      tries ≤ some + more
  sum_by (Ok given) result before after tries begins goes sum =
      let one = few (Ok given) before begins in
      let two = rest given result after goes in
      omega (arith, one, two, sum)
  sum_by (Err e) result before after tries begins goes sum =
      let one = few (Err e) before begins in
      let none = goes.1 in
      omega (arith, one, none, sum)

  -- those of both are at most those of one and of the other
  both_most : Most (AndThen first next) (some + more)
  both_most result tries h =
      sum_by h.given result h.before h.after tries h.begins h.goes h.sum

none_most : (n : ℕ) → NoTries n → n ≤ 0
none_most n none = omega (arith, none)

-- so many times as much
times : (n most : ℕ) → suc n * most ≡ most + n * most
times n most =
    let more = suc-mul n most in
    omega (arith, more)

raised : (m n most tries : ℕ) → m ≤ n → tries ≤ m * most → tries ≤ n * most
raised m n most tries below few =
    let more : m * most ≤ n * most = mul-le m most n most below (omega arith) in
    omega (arith, few, more)

-- ---- the command

module _ (units : UnitsWithin) (name : List ℕ) (budgets : Budgets) (auditors : List Meaning)
    (files : Files) where
  abbrev most : ℕ
  most = 4097 * budgets.tries

  module _ (f : IsClosureFound name files) where
    bytes : HasBytes (language_in f.modules) f.language
    bytes = has_bytes (language_in f.modules) files f.language f.states

    next_most : (m : Module) (progress : BuildProgress) →
        m.header.language ≡ language_in f.modules →
        Most (MakesNext budgets files f.language progress m) most
    next_most m progress same =
        untried_most (ReadsImports (with_made progress.made files) m.header.imports)
        (MakesWith budgets files f.language progress m) most
        (λ imports imported.
        most_untried (MakesUnit budgets files (given_in f.language m imports))
        (λ unit. ShowsUnit f.language progress m unit) most
        (λ result tries h. units.all budgets files (given_in f.language m imports) result tries
        (given_language (language_in f.modules) f.language bytes m same imports) h))

    after_most : (ms : List Module) (progress : BuildProgress) →
        HaveLanguage (language_in f.modules) ms →
        Most (MakesAfter budgets files f.language progress ms) (length ms * most)
    after_most [] progress same =
        subst (λ (n : ℕ). Most (MakesAfter budgets files f.language progress []) n)
        (sym (zero-mul most)) (trying_most NoTries (λ result. result ≡ Ok progress) 0 none_most)
    after_most (m ∷ ms) progress same =
        subst (λ (n : ℕ). Most (MakesAfter budgets files f.language progress (m ∷ ms)) n)
        (sym (times (length ms) most))
        (both_most (MakesNext budgets files f.language progress m)
        (λ next. MakesAfter budgets files f.language next ms) most (length ms * most)
        (next_most m progress same.0) (λ next. after_most ms next same.1))

    over_most : Most (BuildsOver budgets auditors files f.modules f.language)
        (length f.modules * most)
    over_most =
        most_untried (MakesAfter budgets files f.language (none_made auditors) f.modules)
        (λ end result. result ≡ Ok (whole_plan end)) (length f.modules * most)
        (after_most f.modules (none_made auditors) (have_language name files f.modules f.reads))

  all_most : Most (BuildsModule name budgets auditors files) (256 * most)
  all_most =
      untried_most (ReadsModules name files) (BuildsRead budgets auditors files) (256 * most)
      (λ ms reads. untried_most (ReadsLanguage (language_in ms) files)
      (BuildsOver budgets auditors files ms) (256 * most)
      (λ l states result tries h.
      raised (length ms) 256 most tries (are_closure name files ms reads).0.few
      (over_most (record { modules = ms; reads = reads; language = l; states = states }) result
      tries h)))

  built_within : (plan : Plan) (tries : ℕ) →
      BuildsModule name budgets auditors files (Ok plan) tries →
      (f : IsClosureFound name files) × (tries ≤ length f.modules * most)
  built_within plan tries builds =
      let read = passed (ReadsModules name files) (BuildsRead budgets auditors files) plan tries
      builds in
      let stated = passed (ReadsLanguage (language_in read.given) files)
      (BuildsOver budgets auditors files read.given) plan tries read.goes in
      let f : IsClosureFound name files = record {
        modules = read.given;
        reads = read.begins;
        language = stated.given;
        states = stated.begins;
      } in
      (f, over_most f (Ok plan) tries stated.goes)

pub build_walks_are_within : UnitsWithin → BuildWalksAreWithin
build_walks_are_within units = record {
  built = built_within units;
  all = all_most units;
}
