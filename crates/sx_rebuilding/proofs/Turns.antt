-- The turn of one module in a build.
use Rattle.std.proofs.Common.{◌≡◌, ℕ, zero, suc, List, [], ◌∷◌, ◌++◌, map, refl, sym, ap, ◌∙◌}
use Rattle.std.proofs.Common.{subst, append_assoc, arith}
use Rattle.std.specs.Prelude.{Ok, Contains}
use Rattle.std.proofs.lemmas.List.{append-nil}
use Rattle.sx_audit.specs.Meaning.{Meaning}
use Rattle.sx_extcheck.specs.declared.budgets.Budgets.{Budgets}
use Rattle.sx_rules.specs.Orders.{Entry}
use Rattle.sx_rules.specs.Views.{NamedRule}
use Rattle.sx_unit.specs.Written.{UnitData}
use Rattle.sx_outside.specs.Files.{Files}
use Rattle.sx_steps.specs.Steps.{Untried}
use Rattle.sx_steps.proofs.Ones.{ok_same}
use Rattle.sx_steps.proofs.StepsOn.{went, went_on}
use Rattle.sx_accepting.specs.ReadLanguage.{Stated}
use Rattle.sx_auditing.specs.Shows.{Shows}
use Rattle.sx_headers.specs.ModuleFiles.{module_file}
use Rattle.sx_headers.specs.ReadModule.{Module}
use Rattle.sx_importing.specs.ReadImports.{ImportData, ReadsImports}
use Rattle.sx_compiling.specs.MakeUnit.{MakesUnit}
use Rattle.sx_closure.specs.ReadModules.{module_name}
use Rattle.sx_build.specs.BuildModules.{BuildProgress, with_unit, given_in, ShowsUnit, MakesWith, MakesNext}
use Rattle.sx_build.specs.BuildModules.{MakesAfter}
use Rattle.sx_build.specs.MadeModules.{Made, made_of, with_made}

-- no auditors lead to no auditors
none_left : (file : List ℕ) (rules : List NamedRule) (list : List Entry) (old new : List Meaning) →
    old ≡ [] → Shows file rules old list (Ok new) → new ≡ []
none_left file rules list old new none shown =
    let to = subst (λ (o : List Meaning). Shows file rules o list (Ok new)) none shown in
    to.shows.1

module _ (budgets : Budgets) (old : Files) (l : Stated) where
  -- one module more is made, and its list is shown to the auditors
  pub record OneMore (start : BuildProgress) (m : Module) (next : BuildProgress) : Type 0 where
    pub imports : List ImportData
    pub reads : ReadsImports (with_made start.made old) m.header.imports (Ok imports)
    pub unit : UnitData
    pub tries : ℕ
    pub makes : MakesUnit budgets old (given_in l m imports) (Ok unit) tries
    pub shown : Shows (module_file m.header.name) l.language.rules start.auditors unit.list
        (Ok next.auditors)
    pub is : next.made ≡ start.made ++ made_of m.header.name unit ∷ []

  one_more : (start : BuildProgress) (m : Module) (next : BuildProgress) (tries : ℕ) →
      MakesNext budgets old l start m (Ok next) tries → OneMore start m next
  one_more start m next tries makes =
      let read = went_on (Untried (ReadsImports (with_made start.made old) m.header.imports))
      (MakesWith budgets old l start m) next tries makes in
      let g = given_in l m read.given in
      let made = went_on (MakesUnit budgets old g) (λ unit. Untried (ShowsUnit l start m unit))
      next read.after read.goes in
      let unit = made.given in
      let shown = went
      (Shows (module_file m.header.name) l.language.rules start.auditors unit.list)
      (λ auditors result. result ≡ Ok (with_unit start m unit auditors)) next made.goes.0 in
      let is : next ≡ with_unit start m unit shown.given =
      ok_same next (with_unit start m unit shown.given) shown.goes in
      record {
        imports = read.given;
        reads = read.begins.0;
        unit = unit;
        tries = made.before;
        makes = made.begins;
        shown = subst
            (λ (p : BuildProgress). Shows (module_file m.header.name) l.language.rules
            start.auditors unit.list (Ok p.auditors)) (sym is) shown.begins;
        is = ap (λ (p : BuildProgress). p.made) is;
      }

  -- the modules that are left are made, with their names
  pub record AllMore (start : BuildProgress) (ms : List Module) (end : BuildProgress) : Type 0 where
    pub made : List Made
    pub named : map (λ x. x.name) made ≡ map module_name ms
    pub is : end.made ≡ start.made ++ made

  -- so one was made, and then the others
  pub one_then : (start next end : BuildProgress) (m : Module) (ms : List Module)
      (one : OneMore start m next) (rest : AllMore next ms end) →
      end.made ≡ start.made ++ made_of m.header.name one.unit ∷ rest.made
  one_then start next end m ms one rest =
      rest.is ∙ ap (λ (b : List Made). b ++ rest.made) one.is
      ∙ append_assoc start.made (made_of m.header.name one.unit ∷ []) rest.made

  all_more : (start : BuildProgress) (ms : List Module) (end : BuildProgress) (tries : ℕ) →
      MakesAfter budgets old l start ms (Ok end) tries → AllMore start ms end
  all_more start [] end tries makes =
      let is : end ≡ start = ok_same end start makes.0 in
      record {
        made = [];
        named = refl;
        is = ap (λ (p : BuildProgress). p.made) is ∙ sym (append-nil start.made);
      }
  all_more start (m ∷ ms) end tries makes =
      let first = went_on (MakesNext budgets old l start m)
      (λ next. MakesAfter budgets old l next ms) end tries makes in
      let one = one_more start m first.given first.before first.begins in
      let rest = all_more first.given ms end first.after first.goes in
      record {
        made = made_of m.header.name one.unit ∷ rest.made;
        named = ap (λ (names : List (List ℕ)). m.header.name ∷ names) rest.named;
        is = one_then start first.given end m ms one rest;
      }

  -- the turn of this one of the modules, without auditors where there were none at first
  pub record Turn (auditors : List Meaning) (whole : List Module) (end : BuildProgress) (m : Module) :
      Type 0 where
    pub before : List Module
    pub behind : List Module
    pub stands : whole ≡ before ++ m ∷ behind
    pub start : BuildProgress
    pub none : auditors ≡ [] → start.auditors ≡ []
    pub next : BuildProgress
    pub one : OneMore start m next
    pub rest : AllMore next behind end

  -- without auditors its list is shown to none
  pub shown_none : (whole : List Module) (end : BuildProgress) (m : Module) (t : Turn [] whole end m) →
      Shows (module_file m.header.name) l.language.rules [] t.one.unit.list (Ok [])
  shown_none whole end m t =
      let file = module_file m.header.name in
      let list = t.one.unit.list in
      let none = t.none refl in
      let shown = subst (λ (from : List Meaning).
      Shows file l.language.rules from list (Ok t.next.auditors)) none t.one.shown in
      subst (λ (to : List Meaning). Shows file l.language.rules [] list (Ok to))
      (none_left file l.language.rules list [] t.next.auditors refl shown) shown

  module _ (auditors : List Meaning) (whole : List Module) (end : BuildProgress) where
    pub turn_of : (done ms : List Module) (start : BuildProgress) (tries : ℕ) → whole ≡ done ++ ms →
        (auditors ≡ [] → start.auditors ≡ []) → MakesAfter budgets old l start ms (Ok end) tries →
        (m : Module) → Contains ms m → Turn auditors whole end m
    turn_of done [] start tries is none makes m (k, below, same) = absurd (omega (arith, below))
    turn_of done (n ∷ ms) start tries is none makes m (zero, below, same) =
        let first = went_on (MakesNext budgets old l start n)
        (λ next. MakesAfter budgets old l next ms) end tries makes in
        subst (λ (x : Module). Turn auditors whole end x) same (record {
          before = done;
          behind = ms;
          stands = is;
          start = start;
          none = none;
          next = first.given;
          one = one_more start n first.given first.before first.begins;
          rest = all_more first.given ms end first.after first.goes;
        })
    turn_of done (n ∷ ms) start tries is none makes m (suc k, below, same) =
        let first = went_on (MakesNext budgets old l start n)
        (λ next. MakesAfter budgets old l next ms) end tries makes in
        let one = one_more start n first.given first.before first.begins in
        turn_of (done ++ n ∷ []) ms first.given first.after
        (is ∙ sym (append_assoc done (n ∷ []) ms))
        (λ first_none. none_left (module_file n.header.name) l.language.rules one.unit.list
        start.auditors first.given.auditors (none first_none) one.shown) first.goes m
        (k, omega (arith, below), same)
