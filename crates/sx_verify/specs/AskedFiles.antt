-- The names of a module's written files.
use Rattle.std.specs.Prelude.{◌≡◌}
use Rattle.sx_steps.specs.Unit.{base_file, list_file, interface_file}
use Rattle.sx_verify.specs.declared.asked.Asked.{Asked}

-- they are those of the module's base file, list and interface
pub record HasFiles (a : Asked) : Type 0 where
  pub base : a.base.now ≡ base_file a.name.now
  pub list : a.list.now ≡ list_file a.name.now
  pub interface : a.interface.now ≡ interface_file a.name.now
