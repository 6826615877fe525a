use Rattle.std.proofs.Common.{◌≡◌, take, map}
use Rattle.sx_interface.specs.InterfaceView.{marks_view}
use Rattle.sx_uses.specs.ExtensionFile.{extension_of}
use Rattle.sx_compiling.specs.Given.{use_mark}
use Rattle.sx_compiling.proofs.use_marks.use_marks.Given as goal

abbrev pub invariant-loop-file : goal.invariant-loop-file
invariant-loop-file l =
    marks_view l.marks.items ≡ map use_mark (map extension_of (take l.file-index l.files))
