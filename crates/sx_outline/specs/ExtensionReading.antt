-- The reader of an extension file.
use Rattle.std.specs.Prelude.{List, Result, Ok, Err}
use Rattle.sx_lines.specs.Lines.{Lines}
use Rattle.sx_grammar.specs.declared.sort_line.SortLine.{SortLine}
use Rattle.sx_directives.specs.declared.rows.VarLine.{VarLine}
use Rattle.sx_outline.specs.declared.extension_outline.ExtensionOutline.{ExtensionOutline}
use Rattle.sx_outline.specs.declared.outline_error.OutlineError.{OutlineError}
use Rattle.sx_outline.specs.declared.outline_error.OutlineError.TheVariants.{Memory, NotUtf8}
use Rattle.sx_outline.specs.declared.outline_error.OutlineError.TheVariants.{Notation}
use Rattle.sx_outline.specs.Headers.{HeaderData}
use Rattle.sx_outline.specs.Stages.{State}
use Rattle.sx_outline.specs.ExtensionOutlined.{AreReadAfter, IsExtensionEnd, extension_outline}

-- what the end of the lines of an extension file answers
abbrev pub IsExtensionEndRead : List SortLine → HeaderData → State →
    Result ExtensionOutline OutlineError → Type 0
IsExtensionEndRead sorts h s (Ok o) = IsExtensionEnd sorts h s (Ok (extension_outline o))
IsExtensionEndRead sorts h s (Err Memory) = Unit {0}
IsExtensionEndRead sorts h s (Err e) = IsExtensionEnd sorts h s (Err e)

-- what reading the lines after a header answers, where memory may be lacking at each
abbrev pub AreAfterRead : List SortLine → List VarLine → HeaderData → Lines →
    Result ExtensionOutline OutlineError → Type 0
AreAfterRead sorts vars h lines (Ok o) = AreReadAfter sorts vars h lines (Ok (extension_outline o))
AreAfterRead sorts vars h lines (Err Memory) = Unit {0}
AreAfterRead sorts vars h lines (Err (NotUtf8 place)) = ⊥
AreAfterRead sorts vars h lines (Err (Notation number bad)) =
    AreReadAfter sorts vars h lines (Err (Notation number bad))
