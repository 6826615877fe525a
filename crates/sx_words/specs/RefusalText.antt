-- The texts of refusals, one equation for each.
use Rattle.std.specs.Prelude.{ℕ, List, [], ◌∷◌, ◌++◌, codes, decimal}
use Rattle.std.specs.List.{flat_map}
use Rattle.sx_lines.specs.Bytes.{space}
use Rattle.sx_words.specs.declared.grammar_defect.GrammarDefect.{GrammarDefect}
use Rattle.sx_words.specs.declared.grammar_defect.GrammarDefect.TheVariants as grammar
use Rattle.sx_words.specs.declared.file_defect.FileDefect.{FileDefect}
use Rattle.sx_words.specs.declared.file_defect.FileDefect.TheVariants as file
use Rattle.sx_words.specs.declared.text_defect.TextDefect.{TextDefect}
use Rattle.sx_words.specs.declared.text_defect.TextDefect.TheVariants as text
use Rattle.sx_words.specs.declared.rule_defect.RuleDefect.{RuleDefect}
use Rattle.sx_words.specs.declared.rule_defect.RuleDefect.TheVariants as rule
use Rattle.sx_words.specs.declared.extension_defect.ExtensionDefect.{ExtensionDefect}
use Rattle.sx_words.specs.declared.extension_defect.ExtensionDefect.TheVariants as extension
use Rattle.sx_words.specs.declared.goal_defect.GoalDefect.{GoalDefect}
use Rattle.sx_words.specs.declared.goal_defect.GoalDefect.TheVariants as goal
use Rattle.sx_words.specs.declared.budget_defect.BudgetDefect.{BudgetDefect}
use Rattle.sx_words.specs.declared.budget_defect.BudgetDefect.TheVariants as budget
use Rattle.sx_words.specs.declared.list_defect.ListDefect.{ListDefect}
use Rattle.sx_words.specs.declared.list_defect.ListDefect.TheVariants as list
use Rattle.sx_words.specs.declared.print_defect.PrintedPart.{PrintedPart}
use Rattle.sx_words.specs.declared.print_defect.PrintedPart.TheVariants as print
use Rattle.sx_words.specs.declared.print_defect.PrintDefect.{PrintDefect}
use Rattle.sx_words.specs.declared.print_defect.PrintDefect.TheVariants as print_defect
use Rattle.sx_words.specs.declared.closure_defect.Kept.{Kept}
use Rattle.sx_words.specs.declared.closure_defect.Kept.TheVariants as kept
use Rattle.sx_words.specs.declared.closure_defect.ClosureDefect.{ClosureDefect}
use Rattle.sx_words.specs.declared.closure_defect.ClosureDefect.TheVariants as closure
use Rattle.sx_words.specs.declared.position.Position.{Position}
use Rattle.sx_words.specs.declared.position.Position.TheVariants as place
use Rattle.sx_words.specs.declared.refusal.Defect.{Defect}
use Rattle.sx_words.specs.declared.refusal.Defect.TheVariants as defect
use Rattle.sx_words.specs.declared.refusal.Refusal.{Refusal}

-- the parts one after the other
abbrev pub joined : List (List ℕ) → List ℕ
joined parts = flat_map (λ part. part) parts

-- defects of the words and of whole files
abbrev pub file_text : FileDefect → List ℕ
file_text (file.Word n) = joined (codes "word " ∷ decimal n ∷ [])
file_text file.Absent = joined (codes "absent" ∷ [])
file_text file.TooLong = joined (codes "too long" ∷ [])
file_text file.ReadFault = joined (codes "read fault" ∷ [])
file_text file.WriteFault = joined (codes "write fault" ∷ [])
file_text (file.NotUtf8 n) = joined (codes "not UTF-8 at byte " ∷ decimal n ∷ [])
file_text (file.Notation text) = joined (text ∷ [])
file_text file.Header = joined (codes "bad header" ∷ [])
file_text (file.Version n) = joined (codes "version " ∷ decimal n ∷ [])
file_text file.BadList = joined (codes "bad entry" ∷ [])

-- defects of texts and terms
abbrev pub text_text : TextDefect → List ℕ
text_text text.BadToken = joined (codes "bad token" ∷ [])
text_text text.OpenString = joined (codes "string without end" ∷ [])
text_text text.NoReading = joined (codes "no reading" ∷ [])
text_text text.TooManyTokens = joined (codes "more than 10000 tokens" ∷ [])
text_text text.TooHard = joined (codes "parsing needs more than 2000000 items" ∷ [])
text_text (text.TooDeep n) = joined (codes "depth " ∷ decimal n ∷ codes " is over 1000" ∷ [])
text_text (text.TooBig n) =
    joined (codes "a term has " ∷ decimal n ∷ codes " nodes, over 1000000" ∷ [])
text_text (text.Ambiguous one other) = joined
    (codes "two readings: " ∷ one ∷ codes " and " ∷ other ∷ [])

-- defects of rule sets
abbrev pub rule_text : RuleDefect → List ℕ
rule_text rule.TooManyRules = joined (codes "more than 4096 rules" ∷ [])
rule_text rule.TooManyVars = joined (codes "more than 64 variables" ∷ [])
rule_text (rule.SameRule text) = joined (codes "rule " ∷ text ∷ codes " stands twice" ∷ [])
rule_text rule.SortDiffers = joined (codes "sorts differ" ∷ [])
rule_text (rule.Discipline part premise) = joined
    (codes "part " ∷ decimal part ∷ codes " of the discipline at premise " ∷ decimal premise ∷ [])
rule_text (rule.NotModed text) = joined (text ∷ codes " is not bound" ∷ [])

-- defects of extensions
abbrev pub extension_text : ExtensionDefect → List ℕ
extension_text (extension.WrongLanguage text) = joined (codes "written for language " ∷ text ∷ [])
extension_text extension.NoBody = joined (codes "no body" ∷ [])
extension_text extension.BodySort = joined (codes "body without a subject" ∷ [])
extension_text extension.BodyExtended = joined (codes "body uses extended syntax" ∷ [])
extension_text (extension.Twice text) = joined (codes "plain " ∷ text ∷ codes " stands twice" ∷ [])
extension_text (extension.UsesLater text) = joined (codes "uses " ∷ text ∷ [])
extension_text (extension.Drops text) = joined (text ∷ codes " is not used" ∷ [])
extension_text extension.NoPlain = joined (codes "no plain body" ∷ [])

-- goals that are stuck
abbrev pub stuck_goal_text : GoalDefect → List ℕ
stuck_goal_text (goal.NoRule goal) = joined (codes "no rule concludes " ∷ goal ∷ [])
stuck_goal_text (goal.Equal goal premise rule) = joined
    (goal ∷ codes ": premise " ∷ decimal premise ∷ codes " of " ∷ rule ∷ codes " does not hold" ∷
    [])
stuck_goal_text (goal.Mismatch goal premise rule) =
    joined (goal ∷ codes " is not what premise " ∷ decimal premise ∷ codes " of " ∷ rule ∷
    codes " asks for" ∷ [])
stuck_goal_text (goal.NotStated goal) = joined (goal ∷ codes " is not the stated conclusion" ∷ [])

-- budgets of derivations
abbrev pub budget_text : BudgetDefect → List ℕ
budget_text (budget.Tries n) = joined (codes "more than " ∷ decimal n ∷ codes " tries" ∷ [])
budget_text budget.Depth = joined (codes "derivation deeper than 3000" ∷ [])
budget_text (budget.Nodes n) =
    joined (codes "rewriting needs more than " ∷ decimal n ∷ codes " nodes" ∷ [])
budget_text budget.RewriteDepth = joined (codes "rewritten derivation deeper than 3000" ∷ [])

-- derivation lists that fit nothing
abbrev pub list_defect_text : ListDefect → List ℕ
list_defect_text (list.WrongAt n) = joined (codes "entry " ∷ decimal n ∷
    codes " fits no derivation" ∷ [])
list_defect_text list.EndsEarly = joined (codes "list ends early" ∷ [])
list_defect_text (list.LongList n) = joined (codes "entry " ∷ decimal n ∷ codes " is left over" ∷
    [])
list_defect_text (list.DeepList n) =
    joined (codes "entry " ∷ decimal n ∷ codes " is deeper than 3000" ∷ [])

-- defects of grammars
abbrev pub grammar_text : GrammarDefect → List ℕ
grammar_text (grammar.BadLiteral text) = joined (codes "bad literal " ∷ text ∷ [])
grammar_text (grammar.SameSort name) = joined (codes "sort " ∷ name ∷ codes " stands twice" ∷ [])
grammar_text (grammar.UnknownSort name) = joined (codes "unknown sort " ∷ name ∷ [])
grammar_text (grammar.SameLabel label) = joined
    (codes "label " ∷ label ∷ codes " stands twice" ∷ [])
grammar_text (grammar.PlainHasTyped label) =
    joined (codes "production " ∷ label ∷ codes " has a typed part" ∷ [])
grammar_text (grammar.NoBrackets sort) = joined
    (codes "sort " ∷ sort ∷ codes " needs brackets" ∷ [])
grammar_text (grammar.Cyclic sort) = joined (codes "sort " ∷ sort ∷ codes " is cyclic" ∷ [])

-- ---- what a text says of printed texts and of files that do not go together

-- which printed text it is
abbrev pub part_text : PrintedPart → List ℕ
part_text print.Body = joined (codes "printed text " ∷ [])
part_text print.Signature = joined (codes "printed signature " ∷ [])
part_text print.Stated = joined (codes "printed stated signature " ∷ [])

-- printed texts that cannot be written, after the name of the part
abbrev pub print_defect_text : PrintDefect → List ℕ
print_defect_text (print_defect.Bytes n) =
    joined (codes "has " ∷ decimal n ∷ codes " bytes, over 262144" ∷ [])
print_defect_text (print_defect.Tokens n) =
    joined (codes "has " ∷ decimal n ∷ codes " tokens, over 10000" ∷ [])
print_defect_text print_defect.Items = joined (codes "needs more than 2000000 items" ∷ [])
print_defect_text (print_defect.Depth n) =
    joined (codes "has depth " ∷ decimal n ∷ codes ", over 1000" ∷ [])
print_defect_text (print_defect.Ambiguous one other) =
    joined (codes "has two readings: " ∷ one ∷ codes " and " ∷ other ∷ [])

-- the names, each after a blank
abbrev pub names_text : List (List ℕ) → List ℕ
names_text names = flat_map (λ name. space ∷ name) names

-- values that a file keeps of another
abbrev pub kept_text : Kept → List ℕ
kept_text kept.LanguageDigest = joined (codes "language digest" ∷ [])
kept_text kept.BaseDigest = joined (codes "base digest" ∷ [])
kept_text (kept.ImportDigest name) = joined (codes "import " ∷ name ∷ codes " digest" ∷ [])
kept_text kept.Signature = joined (codes "signature" ∷ [])
kept_text kept.Stated = joined (codes "stated signature" ∷ [])

-- files that do not go together
abbrev pub closure_text : ClosureDefect → List ℕ
closure_text (closure.Cycle names) = joined (codes "cycle" ∷ []) ++ names_text names.items
closure_text closure.TooManyModules = joined (codes "more than 256 files" ∷ [])
closure_text (closure.LanguageDiffers language) =
    joined (codes "language " ∷ language ∷ codes " differs" ∷ [])
closure_text (closure.Differs what was found) =
    kept_text what ++ joined (codes " kept " ∷ was ∷ codes ", found " ∷ found ∷ [])
closure_text closure.CoreDiffers = joined (codes "differs" ∷ [])

-- ---- whole texts

-- what a text says first
abbrev pub place_text : Position → List ℕ
place_text place.Nowhere = []
place_text (place.Line number) = joined (codes "line " ∷ decimal number ∷ codes ": " ∷ [])
place_text (place.Spot number column) = joined
    (codes "line " ∷ decimal number ∷ codes " column " ∷ decimal column ∷ codes ": " ∷ [])
place_text (place.Rule name) = joined (codes "rule " ∷ name ∷ codes ": " ∷ [])
place_text (place.Plain label) = joined (codes "plain " ∷ label ∷ codes ": " ∷ [])
place_text (place.Production label) = joined (codes "production " ∷ label ∷ codes ": " ∷ [])

-- what a text says is wrong
abbrev pub defect_text : Defect → List ℕ
defect_text (defect.File x) = file_text x
defect_text (defect.Text x) = text_text x
defect_text (defect.Grammar x) = grammar_text x
defect_text (defect.Rule x) = rule_text x
defect_text (defect.Extension x) = extension_text x
defect_text (defect.Goal x) = stuck_goal_text x
defect_text (defect.Budget x) = budget_text x
defect_text (defect.Print part x) = part_text part ++ print_defect_text x
defect_text (defect.Captured word) =
    joined (codes "stated signature has the literal " ∷ word ∷ codes " as a name" ∷ [])
defect_text (defect.Closure x) = closure_text x
defect_text (defect.List x) = list_defect_text x
defect_text (defect.Objected auditor node name) =
    joined (auditor ∷ codes " objects to node " ∷ decimal node ∷ codes ", " ∷ name ∷ [])

-- the place, and then the defect
abbrev pub refusal_text : Refusal → List ℕ
refusal_text refusal = place_text refusal.place ++ defect_text refusal.defect
