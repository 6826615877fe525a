use Rattle.std.proofs.Common.{◌≡◌, ℕ, ◌+◌, ◌<◌, List, [], ◌∷◌, ◌++◌, map, refl, sym, ap, ◌∙◌, subst}
use Rattle.std.proofs.Common.{length, get_or, arith}
use Rattle.std.proofs.lemmas.List.{length-map}
use Rattle.sx_accepting.specs.ReadLanguage.{stated_of, HasText}
use Rattle.sx_headers.specs.ReadModule.{Module, module_of}
use Rattle.sx_importing.proofs.Results.{reads_on_from, reads_err}
use Rattle.sx_walking.specs.Opened.{AreOnce}
use Rattle.sx_closure.specs.ReadModules.{IsModuleStated}
use Rattle.sx_build.specs.BuildModules.{BuildProgress, none_made, language_in, MakesAfter}
use Rattle.sx_build.specs.Buildings.{mades_view, AreNamedApart}
use Rattle.sx_build.specs.MadeModules.{Made}
use Rattle.sx_build.specs.Remembering.{remembered_imports, Remembers}
use Rattle.sx_compiling.proofs.Members.{holds_at}
use Rattle.sx_build.proofs.MakingOn.{goes_on, goes_stop, goes_end}
use Rattle.sx_build.proofs.Ordered.{source_at, names_next, imports_among, name_is_new}
use Rattle.sx_build.proofs.Ordered.{once_snoc}
use Rattle.sx_build.proofs.build_module.make_all.Goals as goal
use Rattle.sx_build.proofs.build_module.make_all.Goals.{Start, At-loop-i, After-index-sources-i}

-- no module is made
abbrev begun : (g : _) (c : Start g) → BuildProgress
begun g c =
    none_made (map (λ b. (goal.Auditor-dyn g (b.vtable, b.value)).meaning b.value)
    c.args.building.now.auditors.items)

-- the modules that are made so far
abbrev made_so_far : (g : _) (c : At-loop-i g) → BuildProgress
made_so_far g c = record {
  made = mades_view c.loop-i.building.made.items;
  auditors = map (λ b. (goal.Auditor-dyn g (b.vtable, b.value)).meaning b.value)
      c.loop-i.building.auditors.items;
}

-- the module at hand is one of them
source_here : (g : _) (c : After-index-sources-i g) →
    (c.loop-i.i < length (map module_of c.args.sources.now))
    × (module_of c.index-sources-i.result ≡ get_or (map module_of c.args.sources.now) c.loop-i.i
    (module_of c.index-sources-i.result))
source_here g c = (
  subst (λ (n : ℕ). c.loop-i.i < n) (sym (length-map c.args.sources.now module_of))
      c.loop-i-test.true,
  source_at c.args.sources.now c.loop-i.i c.index-sources-i.result c.loop-i-test.true
      c.index-sources-i.is,
)

pub loop-i-init : goal.loop-i-init
loop-i-init g c =
    let asked = c.args.asked.now in
    let l = stated_of asked.language.now in
    let sources = c.args.sources.now in
    let ms = map module_of sources in
    let start = begun g (goal.at.loop-i-init g c).Start in
    record {
      step = λ files told. (
        0,
        omega arith,
        λ r more h. subst (λ (n : ℕ). MakesAfter asked.budgets files l start ms r n) (omega arith)
            (subst (λ (made : List Made). MakesAfter asked.budgets files l
            (let p : BuildProgress = record { made = made; auditors = start.auditors } in p) ms r more)
            c.requires.begun h),
      );
      names = ap (λ (mades : List Made). map (λ (x : Made). x.name) mades) c.requires.begun;
      distinct = subst AreNamedApart (sym c.requires.begun) tt;
      remembers = subst (λ (ms : List Made). Remembers ms
          (remembered_imports c.args.building.now.remembered)) (sym c.requires.begun)
          c.requires.remembers;
      kept = c.requires.kept;
      content = refl;
      reads = refl;
      writes = refl;
    }

pub make_next-requires : goal.make_next-requires
make_next-requires g c =
    let asked = c.args.asked.now in
    let sources = c.args.sources.now in
    let ms = map module_of sources in
    let i = c.loop-i.i in
    let source = c.index-sources-i.result in
    let here = source_here g (goal.at.make_next-requires g c).After-index-sources-i in
    let below = here.0 in
    let is = here.1 in
    let can = c.requires.can in
    let same = holds_at (λ (x : Module). x.header.language ≡ language_in ms) module_of sources i
    source c.loop-i-test.true c.index-sources-i.is can.same in
    record {
      can = record {
        stated = holds_at IsModuleStated module_of sources i source c.loop-i-test.true
            c.index-sources-i.is can.stated;
        language = record {
          language = can.fit;
          text = subst (λ (n : List ℕ). HasText n asked.language.now.language) (sym same)
              can.text;
        };
        distinct = c.loop-i.invariant.distinct;
        among = imports_among sources can.order i source below is
            (map (λ (x : Made). x.name) (mades_view c.loop-i.building.made.items))
            c.loop-i.invariant.names;
      };
      remembers = c.loop-i.invariant.remembers;
      kept = λ files told. c.loop-i.invariant.kept files (sym c.loop-i.invariant.content ∙ told);
    }

pub loop-i-preserved : goal.loop-i-preserved
loop-i-preserved g c =
    let asked = c.args.asked.now in
    let l = stated_of asked.language.now in
    let sources = c.args.sources.now in
    let ms = map module_of sources in
    let at = goal.at.loop-i-preserved g c in
    let start = begun g at.Start in
    let i = c.loop-i.i in
    let source = c.index-sources-i.result in
    let m = module_of source in
    let here = source_here g at.After-index-sources-i in
    let below = here.0 in
    let is = here.1 in
    let now = made_so_far g at.At-loop-i in
    let next : BuildProgress = record {
      made = mades_view c.make_next.new.building.made.items;
      auditors = map (λ b. (goal.Auditor-dyn g (b.vtable, b.value)).meaning b.value)
          c.make_next.new.building.auditors.items;
    } in
    let before = c.loop-i.invariant in
    let so_far = map (λ (x : Made). x.name) now.made in
    record {
      step = λ files told.
          let all = before.step files told in
          let one = c.in-Ok.ensures.step files (before.content ∙ told) in (
            all.0 + one.0,
            one.2 ∙ ap (λ (n : ℕ). n + one.0) all.1 ∙ omega arith,
            goes_on asked.budgets files l start ms now i all.0 m below is all.2 next one.0 one.1,
          );
      names = c.in-Ok.ensures.names
          ∙ ap (λ (ns : List (List ℕ)). ns ++ m.header.name ∷ []) before.names
          ∙ sym (names_next ms i m below is);
      distinct = subst AreOnce (sym c.in-Ok.ensures.names)
          (once_snoc so_far m.header.name before.distinct
          (name_is_new sources c.requires.can.order i source below is so_far before.names));
      remembers = c.in-Ok.ensures.remembers;
      kept = λ files told. c.in-Ok.ensures.kept files (before.content ∙ told);
      content = c.in-Ok.ensures.reads.content ∙ before.content;
      reads = c.in-Ok.ensures.reads.kept (λ fault. fault) ∙ before.reads;
      writes = c.in-Ok.ensures.reads.writes ∙ before.writes;
    }

pub returns-in-Err-clause-step : goal.returns-in-Err-clause-step
returns-in-Err-clause-step g c = λ files told.
    let asked = c.args.asked.now in
    let l = stated_of asked.language.now in
    let sources = c.args.sources.now in
    let ms = map module_of sources in
    let at = goal.at.returns-in-Err-clause-step g c in
    let start = begun g at.Start in
    let i = c.loop-i.i in
    let source = c.index-sources-i.result in
    let m = module_of source in
    let here = source_here g at.After-index-sources-i in
    let below = here.0 in
    let is = here.1 in
    let now = made_so_far g at.At-loop-i in
    let before = c.loop-i.invariant in
    let all = before.step files told in
    let one = c.in-Err.ensures.step files (before.content ∙ told) in (
      all.0 + one.0,
      goes_stop asked.budgets files l start ms now i all.0 m below is all.2 c.in-Err.e one.0 one.1,
      one.2 ∙ ap (λ (n : ℕ). n + one.0) all.1 ∙ omega arith,
    )

pub returns-in-Err-clause-reads : goal.returns-in-Err-clause-reads
returns-in-Err-clause-reads g c =
    let before = c.loop-i.invariant in
    reads_on_from _ _ _ _ _ _ _ _ _ _ before.content before.reads before.writes
    (reads_err {X = Unit {0}} _ _ _ _ _ _ c.in-Err.e c.in-Err.ensures.reads)

pub returns-clause-step : goal.returns-clause-step
returns-clause-step g c = λ files told.
    let asked = c.args.asked.now in
    let l = stated_of asked.language.now in
    let sources = c.args.sources.now in
    let ms = map module_of sources in
    let at = goal.at.returns-clause-step g c in
    let start = begun g at.Start in
    let now = made_so_far g at.At-loop-i in
    let all = c.loop-i.invariant.step files told in (
      all.0,
      goes_end asked.budgets files l start ms now c.loop-i.i all.0
          (omega (arith, length-map sources module_of, c.loop-i-test.false)) all.2,
      all.1,
    )
