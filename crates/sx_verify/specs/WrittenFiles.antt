-- The written files that were read.
use Rattle.std.specs.Prelude.{◌≤◌, length}
use Rattle.sx_interface.specs.InterfaceView.{interface_view}
use Rattle.sx_interface.specs.StatedHeader.{ArePlainNames}
use Rattle.sx_headers.specs.ReadModule.{module_of}
use Rattle.sx_verify.specs.declared.written_files.WrittenFiles.{WrittenFiles}
use Rattle.sx_verify.specs.BaseFits.{IsBaseOf}
use Rattle.sx_verify.specs.VerifyModule.{Written, both_written}
use Rattle.sx_term.specs.Limits.{most_bytes}

-- what was read, without where it lies in memory
abbrev pub written_of : WrittenFiles → Written
written_of w = both_written (interface_view w.interface) (module_of w.base)

-- the base file is no longer than a file may be, its imports have names, and it fits the interface
pub record AreWrittenFiles (w : WrittenFiles) : Type 0 where
  pub short : length w.base.bytes.items ≤ most_bytes
  pub names : ArePlainNames w.base.header.imports.items
  pub fits : IsBaseOf (interface_view w.interface) (module_of w.base).header
