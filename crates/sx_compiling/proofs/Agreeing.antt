-- The steps that make a unit have one result, but for read faults and for two readings that a stop
-- shows of a text that has more.
use Rattle.std.proofs.Common.{◌≡◌, ◌≢◌, ℕ, List, [], refl, sym, ap, ◌∙◌, subst, inl, inr, ◌⊎◌}
use Rattle.std.specs.Prelude.{Result, Ok, Err, Some, map, option_map, slice_get}
use Rattle.std.proofs.lemmas.Option.{slice_get-map, get_or_from_slice_get}
use Rattle.sx_grammar.specs.Tables.{literals_of}
use Rattle.sx_outline.specs.Laws.{OneHeaderAnswer}
use Rattle.sx_outside.specs.Files.{Files}
use Rattle.sx_extcheck.specs.declared.budgets.Budgets.{Budgets}
use Rattle.sx_interface.specs.Interfaces.{InterfaceParts}
use Rattle.sx_notation.specs.declared.unread.Unread.TheVariants as unread
use Rattle.sx_typing.specs.Dialects.{IsDialect}
use Rattle.sx_typing.specs.declared.module_error.ModuleError.{ModuleError}
use Rattle.sx_typing.specs.declared.module_error.ModuleError.TheVariants as module_error
use Rattle.sx_unit.specs.Alike.{AreUnitsAlike}
use Rattle.sx_unit.specs.Modules.{ModuleData}
use Rattle.sx_unit.specs.Written.{UnitData}
use Rattle.sx_unit.proofs.OneUnit.{one_unit}
use Rattle.sx_environment.specs.SeenFrom.{SeenFrom}
use Rattle.sx_environment.proofs.OneEnvironment.{one_environment}
use Rattle.sx_words.specs.declared.print_defect.PrintDefect.TheVariants as print_defect
use Rattle.sx_words.specs.declared.refusal.Defect.TheVariants as defect
use Rattle.sx_steps.specs.Refusal.{about, status_of, line_of}
use Rattle.sx_steps.specs.declared.stop.Stop.{Stop}
use Rattle.sx_steps.specs.Agree.{IsNoReadFault, AreReadings, AnswersBy}
use Rattle.sx_steps.specs.Steps.{NoTries, Untried}
use Rattle.sx_steps.specs.Unit.{interface_file}
use Rattle.sx_steps.proofs.Ones.{IsOneBy, and_then_by, as_answer, answers_so, trying_by}
use Rattle.sx_steps.proofs.Ones.{trying_same, no_tries_one, some_same}
use Rattle.sx_uses.specs.Laws.{AnswerAlike}
use Rattle.sx_uses.specs.ReadUses.{ReadsUses}
use Rattle.sx_uses.proofs.Agreeing.{uses_by}
use Rattle.sx_accepting.specs.Alike.{StopsAtExtension, SameButReadings}
use Rattle.sx_accepting.specs.ExtendedLanguages.{unextended}
use Rattle.sx_accepting.specs.Extending.{ExtendsLanguage}
use Rattle.sx_accepting.specs.ReadLanguage.{base_in}
use Rattle.sx_accepting.proofs.OneExtended.{extends_agree}
use Rattle.sx_accepting.proofs.SameRefusals.{not_lacking, same_refusal, readings_as}
use Rattle.sx_headers.specs.FreeImports.{HasFreeImports}
use Rattle.sx_headers.specs.TextStops.{unread_text}
use Rattle.sx_headers.proofs.OneHeaders.{free_imports_one}
use Rattle.sx_importing.specs.ImportStops.{import_file}
use Rattle.sx_importing.specs.Laws.{SameButRows}
use Rattle.sx_importing.specs.MakeEnvironment.{SeesImports}
use Rattle.sx_importing.proofs.OneImports.{sees}
use Rattle.sx_compiling.specs.ModuleStops.{module_stop}
use Rattle.sx_compiling.specs.CompileModule.{Compiles, CompilingTries}
use Rattle.sx_compiling.specs.Given.{GivenModule, interfaces_in, seen_in}
use Rattle.sx_compiling.specs.MakeUnit.{MakesIn, MakesSeeing, MakesExtended, MakesReached}
use Rattle.sx_compiling.specs.Reached.{HasNamedLanguage, ReachesExtensions, HasDialect}
use Rattle.sx_compiling.specs.Reached.{HasGround, seen_over, module_over}
use Rattle.sx_compiling.specs.Laws.{ShowsOfThree, SameButShown, UnitsAgree}
use Rattle.sx_compiling.proofs.MadeUnits.{dialect_by, dialect_is}

-- ---- the unit

-- the stops of two refusals of a module
module _ (file : List ℕ) (m : ModuleData) (b : Budgets) where
  -- they are the same, or show two readings of a text of the module that has more than two
  abbrev AreSame : Stop → Stop → Type 0
  AreSame s t = (s ≡ t) ⊎ (AreReadings s t × (s.file ≡ file) × ShowsOfThree m b s.refusal.defect)

  shown_as : (x y s t : Stop) → AreReadings x y → x.file ≡ file →
      ShowsOfThree m b x.refusal.defect → Some x ≡ Some s → Some y ≡ Some t → AreSame s t
  shown_as x y s t are of three h k =
      inr (
        readings_as x y s t are h k,
        subst (λ (z : Stop). z.file ≡ file) (some_same x s h) of,
        subst (λ (z : Stop). ShowsOfThree m b z.refusal.defect) (some_same x s h) three,
      )

  alike_same : (e d : ModuleError) (s t : Stop) → AreUnitsAlike m b e d → module_stop file e ≡ Some s →
      module_stop file d ≡ Some t → AreSame s t
  alike_same e d s t (inl same) h k =
      inl (same_refusal (module_stop file) module_error.Memory refl e d s t same h k)
  alike_same e d s t (inr (inl show)) h k =
      shown_as (unread_text file show.line show.column (unread.Ambiguous show.one show.other))
      (unread_text file show.line show.column (unread.Ambiguous show.some show.more)) s t
      (record { file = refl; place = refl; shown = tt }) refl show.three
      (sym (ap (module_stop file) show.first) ∙ h) (sym (ap (module_stop file) show.second) ∙ k)
  alike_same e d s t (inr (inr (l, show))) h k =
      shown_as (about file (defect.Print show.part (print_defect.Ambiguous show.one show.other)))
      (about file (defect.Print show.part (print_defect.Ambiguous show.some show.more))) s t
      (record { file = refl; place = refl; shown = refl }) refl (l, show.three)
      (sym (ap (module_stop file) show.first) ∙ h) (sym (ap (module_stop file) show.second) ∙ k)

-- ---- the environment

-- the file of an import is that of its interface
file_is : (its : List InterfaceParts) (import : ℕ) (it : InterfaceParts) →
    slice_get its import ≡ Some it → import_file its import ≡ interface_file it.name
file_is its import it is =
    ap interface_file (get_or_from_slice_get (map (λ it. it.name) its) import it.name []
    (slice_get-map (λ it. it.name) its import ∙ ap (option_map (λ it. it.name)) is))

-- ---- the steps

module _ (headers : OneHeaderAnswer) (budgets : Budgets) (files : Files) (g : GivenModule)
    (l : HasNamedLanguage g) where
  abbrev Related : Stop → Stop → Type 0
  Related = SameButShown budgets files g

  same_alike : (s t : Stop) → s ≡ t → Related s t
  same_alike s t e = inl (record { status = (λ i. status_of (e i)); line = (λ i. line_of (e i)) })

  alike : (s : Stop) → Related s s
  alike s = same_alike s s refl

  -- the unit
  module _ (ground : HasGround budgets files g) where
    abbrev m : ModuleData
    m = module_over ground

    is : IsDialect m.source.dialect
    is = dialect_is budgets files g l ground.over

    of_three : (s t : Stop) → AreSame g.file m budgets s t → Related s t
    of_three s t (inl e) = same_alike s t e
    of_three s t (inr (show, file, three)) =
        inr (show, inl (record { ground = ground; file = file; three = three }))

    wants : (stop : Stop) (e : ModuleError) → module_stop g.file e ≡ Some stop →
        e ≢ module_error.Memory
    wants stop e told = not_lacking (module_stop g.file) module_error.Memory refl e stop told

    compiles_by : (x y : Result UnitData Stop) → Compiles g.file budgets m x →
        Compiles g.file budgets m y → IsNoReadFault x → IsNoReadFault y →
        AnswersBy Related (as_answer x) (as_answer y)
    compiles_by (Ok u) (Ok v) s t f n = one_unit.found m budgets u v is s.made t.made
    compiles_by (Ok u) (Err t) s r f n =
        absurd (wants t r.error r.is (one_unit.either m budgets u r.error is s.made r.refused))
    compiles_by (Err s) (Ok v) r t f n =
        absurd (wants s r.error r.is (one_unit.either m budgets v r.error is t.made r.refused))
    compiles_by (Err s) (Err t) r q f n =
        of_three s t
        (alike_same g.file m budgets r.error q.error s t
        (one_unit.refused m budgets r.error q.error is r.refused q.refused
        (wants s r.error r.is) (wants t q.error q.is)) r.is q.is)

    unit_by : IsOneBy Related (MakesIn budgets g (seen_over ground.over) ground.environment)
    unit_by =
        trying_by Related (CompilingTries budgets m) (Compiles g.file budgets m)
        (one_unit.counted m budgets.tries) compiles_by

  -- the environment
  module _ (over : HasDialect budgets files g) where
    abbrev s : SeenFrom
    s = seen_over over

    abbrev its : List InterfaceParts
    its = interfaces_in g

    of_row : (x y : Stop) → SameButRows s its x y → Related x y
    of_row x y (inl same) = same_alike x y same
    of_row x y (inr (are, told)) =
        let show = told.show in
        inr (
          are,
          inr (inl (record {
            over = over;
            import = show.import;
            it = show.it;
            is = show.is;
            file = told.file ∙ file_is its show.import show.it show.is;
            three = show.three;
          })),
        )

    seeing_by : IsOneBy Related (MakesSeeing budgets g s)
    seeing_by =
        and_then_by Related (Untried (SeesImports g.file s its)) (MakesIn budgets g s)
        (trying_by Related NoTries (SeesImports g.file s its) no_tries_one
        (λ x y h k n m. answers_so (SameButRows s its) Related of_row (as_answer x) (as_answer y)
        (sees one_environment g.file s its x y h k)))
        (λ t before h. unit_by (record {
          over = over;
          environment = t;
          sees = h.0.0;
          depth = h.0.1;
        }))

  -- the extensions
  module _ (r : ReachesExtensions files g) where
    abbrev SameExtending : Stop → Stop → Type 0
    SameExtending = SameButReadings (StopsAtExtension (base_in g.language) budgets
        (unextended g.language.language) r.extensions)

    of_extension : (s t : Stop) → SameExtending s t → Related s t
    of_extension s t (inl e) = same_alike s t e
    of_extension s t (inr (are, stops)) =
        inr (are, inr (inr (record { from = r; stops = stops })))

    all_by : IsOneBy Related (MakesExtended budgets g r.extensions)
    all_by =
        and_then_by Related
        (ExtendsLanguage (base_in g.language) budgets r.extensions (unextended g.language.language))
        (λ x. MakesSeeing budgets g (seen_in g r.extensions x))
        (λ a b m n h k p q.
        let one = extends_agree g.read.header.language l.bytes g.language l.states budgets
        r.extensions a b m n h k p q in
        (answers_so SameExtending Related of_extension a b one.0, one.1))
        (λ x before h. seeing_by (dialect_by budgets files g l r x before h))

  -- the files
  reached_by : HasFreeImports g.file (literals_of g.language.language.parts) g.read (Ok tt) →
      IsOneBy Related (MakesReached budgets files g)
  reached_by free =
      and_then_by Related
      (Untried (ReadsUses g.file g.read.header.language g.read.header.uses files))
      (MakesExtended budgets g)
      (trying_by Related NoTries
      (ReadsUses g.file g.read.header.language g.read.header.uses files) no_tries_one
      (λ a b h k n o. answers_so AnswerAlike Related (λ s t same. inl same) (as_answer a)
      (as_answer b)
      (uses_by headers g.file g.read.header.language g.read.header.uses files a b h k n o)))
      (λ xs before h. all_by (record { free = free; extensions = xs; reached = h.0 }))

pub units_agree : OneHeaderAnswer → UnitsAgree
units_agree headers budgets files g a b m n l h k p q =
    and_then_by (SameButShown budgets files g)
    (Untried (HasFreeImports g.file (literals_of g.language.language.parts) g.read))
    (λ done. MakesReached budgets files g)
    (trying_same (SameButShown budgets files g) (alike headers budgets files g l) NoTries
    (HasFreeImports g.file (literals_of g.language.language.parts) g.read) no_tries_one
    (free_imports_one g.file (literals_of g.language.language.parts) g.read))
    (λ done before free. reached_by headers budgets files g l free.0) a b m n h k p q
