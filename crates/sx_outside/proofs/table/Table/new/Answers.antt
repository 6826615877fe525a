use Rattle.std.proofs.Common.{ℕ, List, ap}
use Rattle.std.specs.Prelude.{string_bytes}
use Rattle.std.specs.Map.{lookup}
use Rattle.std.specs.Str.{bytes_eq}
use Rattle.sx_outside.specs.Files.{no_files}
use Rattle.sx_outside.specs.Table.{bytes_in}
use Rattle.sx_outside.proofs.table.Table.new.Goals as goal

pub returns : goal.returns
unfolding no_files
returns c = ap (λ entries. λ (name : List ℕ). bytes_in (lookup (λ k. bytes_eq name (string_bytes k)) entries)) c.new.ensures.empty
