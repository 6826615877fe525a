-- The units of a build have the headline.
use Rattle.std.proofs.Common.{◌≡◌}
use Rattle.std.specs.Prelude.{Ok}
use Rattle.sx_headers.specs.ReadModule.{Module}
use Rattle.sx_compiling.specs.Headline.{UnitsHaveHeadline}
use Rattle.sx_compiling.proofs.NamedImports.{imports_named}
use Rattle.sx_closure.specs.ReadImport.{ReadsNamed}
use Rattle.sx_closure.specs.ReadModules.{module_name}
use Rattle.sx_closure.proofs.Closing.{are_closure}
use Rattle.sx_build.specs.BuildModules.{given_in, language_in}
use Rattle.sx_build.specs.BuiltModules.{BuiltHaveHeadline}
use Rattle.sx_build.proofs.Languages.{have_language, has_bytes, given_language}
use Rattle.sx_build.proofs.NamedModules.{header_stated, modules_named}
use Rattle.sx_compiling.proofs.Members.{all_at}

pub built_have_headline : UnitsHaveHeadline → BuiltHaveHeadline
built_have_headline units name budgets auditors old new lines is_a_name b m among from to x i =
    let own = module_name m in
    let read = all_at (λ (n : Module). ReadsNamed old (module_name n) (Ok n)) b.modules m
    (are_closure name old b.modules b.reads).1 among in
    let named = imports_named new m.header.imports i.imports i.reads in
    let language = language_in b.modules in
    let same = all_at (λ (n : Module). n.header.language ≡ language) b.modules m
    (have_language name old b.modules b.reads) among in
    units own budgets old (given_in b.language m i.imports) i.unit
    (modules_named name old b.modules is_a_name b.reads m among)
    (given_language language b.language (has_bytes language old b.language b.states) m same
    i.imports)
    (record {
      states = header_stated old own m read;
      imports = named.same;
      digests = named.digests;
    }) i.compiled
