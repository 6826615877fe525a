-- The environment of a module by its language alone.
use Rattle.std.specs.Prelude.{List, []}
use Rattle.sx_term.specs.Tree.{Tree}
use Rattle.sx_plain.specs.Plain.{image}
use Rattle.sx_interface.specs.Interfaces.{InterfaceParts}
use Rattle.sx_typing.specs.Dialects.{IsDialect}
use Rattle.sx_typing.specs.Growing.{unextended_dialect}
use Rattle.sx_environment.specs.Environments.{IsEnvironment}
use Rattle.sx_environment.specs.SeenFrom.{SeenFrom}

-- what imports are seen from by the language alone, by the same file and without extensions
abbrev pub base_seen : SeenFrom → SeenFrom
base_seen s = record {
  dialect = unextended_dialect s.dialect.language;
  language = s.language;
  uses = [];
}

-- the environment of the same imports by the language alone is the plain image of the environment
abbrev pub BaseEnvironmentIsImage : Type 0
BaseEnvironmentIsImage = (s : SeenFrom) (its : List InterfaceParts) (t : Tree) →
    IsDialect s.dialect → IsEnvironment s its t →
    IsEnvironment (base_seen s) its (image s.dialect.set.table t)
