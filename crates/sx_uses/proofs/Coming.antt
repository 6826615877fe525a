-- Extensions that were read stand after those that they use.
use Rattle.std.proofs.Common.{◌≡◌, ℕ, List, ap, ◌∙◌}
use Rattle.std.specs.Prelude.{Ok}
use Rattle.sx_outside.specs.Files.{Files}
use Rattle.sx_imports.specs.Walk.{Name}
use Rattle.sx_steps.specs.Held.{Held}
use Rattle.sx_term.specs.Limits.{most_bytes}
use Rattle.sx_steps.proofs.StepsOn.{went}
use Rattle.sx_walking.proofs.Coming.{reached_first}
use Rattle.sx_uses.specs.ExtensionFile.{Extension, extension_file, used_names}
use Rattle.sx_uses.specs.ExtensionKind.{extension_name}
use Rattle.sx_uses.specs.ReadExtension.{StatesExtension, ReadsFile, IsFor, ReadsExtension}
use Rattle.sx_uses.specs.Laws.{UsesComeFirst}
use Rattle.sx_uses.proofs.Headers.{header_named}

-- an extension has the name under which it was read
pub read_named : (language : List ℕ) (files : Files) (name : Name) (x : Extension) →
    ReadsExtension language files name (Ok x) → x.header.name ≡ name
read_named language files name x reads =
    let w = went (ReadsFile files name) (IsFor language name) x reads in
    let v = went (Held most_bytes (extension_file name) files) (StatesExtension name) w.given
    w.begins in
    ap (λ (y : Extension). y.header.name) w.goes.1
    ∙ header_named name v.given w.given.header v.goes.states

pub come_first : UsesComeFirst
come_first file language roots files xs reads =
    reached_first extension_name used_names (ReadsExtension language files) (read_named language files) file
    roots xs reads
