use Rattle.std.proofs.Common.{◌-◌, drop, length, map}
use Rattle.sx_uses.specs.ExtensionFile.{extension_of}
use Rattle.sx_accepting.specs.ExtendedLanguages.{CanExtendBy}
use Rattle.sx_accepting.proofs.InOrder.{LeadsOn}
use Rattle.sx_accepting.proofs.growing.extend_language.Given as goal

abbrev pub invariant-loop-i : goal.invariant-loop-i
invariant-loop-i g l = record {
  can : CanExtendBy l.fn.language l.so_far (length l.fn.files - l.i);
  leads : LeadsOn l.fn.language l.fn.budgets (map extension_of l.fn.files)
      (map extension_of (drop l.i l.fn.files)) l.initial.steps l.steps l.so_far;
}
