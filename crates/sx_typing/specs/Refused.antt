-- Why a body is not read or not typed.
use Rattle.std.specs.Prelude.{◌≡◌, ◌⊎◌, ℕ, ◌+◌, ◌-◌, ◌^◌, List, [], Some, None, min, length}
use Rattle.sx_term.specs.declared.role.Role.TheVariants.{Sub}
use Rattle.sx_term.specs.Tree.{Tree}
use Rattle.sx_token.specs.declared.token.Token.{Token}
use Rattle.sx_token.specs.declared.token_error.TokenError.{TokenError}
use Rattle.sx_token.specs.declared.token_error.TokenError.TheVariants as token
use Rattle.sx_grammar.specs.Reading.{Reading}
use Rattle.sx_forest.specs.Places.{place_at}
use Rattle.sx_rules.specs.First.{Answer, IsUnderivable}
use Rattle.sx_rules.specs.Modes.{AllModed, Goal}
use Rattle.sx_rules.specs.Views.{modes_of, subjects_in}
use Rattle.sx_derive.specs.Walk.{depth_spent, too_deep as passes_depth, too_big as passes_size}
use Rattle.sx_derive.specs.Search.{stopped, spent, exhausted, walk, tries_of}
use Rattle.sx_derive.specs.Stuck.{Blame, Reason, IsStuck}
use Rattle.sx_notation.specs.declared.unread.Unread.{Unread}
use Rattle.sx_notation.specs.declared.unread.Unread.TheVariants as unread
use Rattle.sx_notation.specs.WhyUnread.{IsUnreadAs, place_in}
use Rattle.sx_stuck.specs.StuckText.{Telling, stuck_text as told_text}
use Rattle.sx_words.specs.declared.goal_defect.GoalDefect.{GoalDefect}
use Rattle.sx_typing.specs.declared.module_error.ModuleError.{ModuleError}
use Rattle.sx_typing.specs.declared.module_error.ModuleError.TheVariants.{Memory}
use Rattle.sx_typing.specs.declared.module_error.ModuleError.TheVariants.{Token as BadTokens, Read}
use Rattle.sx_typing.specs.declared.module_error.ModuleError.TheVariants.{TypeError, BudgetSpent}
use Rattle.sx_typing.specs.declared.module_error.ModuleError.TheVariants.{DepthSpent, TooDeep}
use Rattle.sx_typing.specs.declared.module_error.ModuleError.TheVariants.{TooBig, RewriteSpent}
use Rattle.sx_typing.specs.declared.module_error.ModuleError.TheVariants.{RewriteDeep, Print}
use Rattle.sx_typing.specs.declared.module_error.ModuleError.TheVariants.{Captured}
use Rattle.sx_typing.specs.Body.{IsCut, HasDefect}
use Rattle.sx_typing.specs.Dialects.{DialectData}
use Rattle.sx_typing.specs.Goals.{dialect_rules, goal_with, source_events, IsBody, IsSubjectTyped}
use Rattle.sx_rules.specs.Rules.{no_hypotheses}
use Rattle.sx_typing.specs.BodySource.{BodySource, main_sort, bytes_before}
use Rattle.sx_typing.specs.Spots.{line_at, column_at}
use Rattle.sx_rules.specs.Limits.{most_levels}

-- ---- the body

-- line and column are those of this place in the body, in the module's file
abbrev pub IsSpot : BodySource → (place line column : ℕ) → Type 0
IsSpot s place line column = (line ≡ line_at s.bytes (bytes_before s + place)) ×
    (column ≡ column_at s.bytes (bytes_before s + place))

-- the place that a defect, or a text that is not read, tells; 0 where it tells none
abbrev pub defect_place : TokenError → ℕ
defect_place (token.NotUtf8 place) = place
defect_place (token.BadToken place) = place
defect_place (token.OpenString place) = place
defect_place _ = 0

abbrev pub unread_place : Unread → ℕ
unread_place (unread.NoReading place) = place
unread_place _ = 0

-- ---- the goal

-- what a stuck goal is told by, which has no variables
abbrev pub telling_in : DialectData → Telling
telling_in d =
    record { parts = d.rule_parts; forms = d.language.forms; names = []; rules = d.rules }

-- the names of rules, and the texts of goals, as a type error shows them
abbrev pub told_goal : DialectData → Goal → Reason → GoalDefect
told_goal d goal_with reason = told_text (telling_in d) goal_with reason

-- the stuck goal of the goal with this body's term
abbrev pub IsStuckGoal : BodySource → (subject : Tree) → Blame → Type 0
IsStuckGoal s subject blame =
    IsStuck (modes_of s.dialect.language.forms) (subjects_in s.dialect.language.forms)
    (dialect_rules s.dialect) no_hypotheses most_levels (goal_with s subject) [] blame

-- the token at which the part begins that the stuck goal speaks of
abbrev pub IsStuckAt : List Token → Reading → Blame → BodySource → (line column : ℕ) → Type 0
IsStuckAt ts r blame s line column = (number : ℕ) × (place_at r blame.path ≡ Some number) ×
    IsSpot s (place_in ts (length s.header.body) number) line column

-- ---- all of it

-- the body has only one reading
pub record HasReadBody (s : BodySource) : Type 0 where
  pub tokens : List Token
  pub reading : Reading
  pub subject : Tree
  pub read : IsBody s tokens reading subject

-- and its goal has an answer
pub record HasTyping (s : BodySource) (tries : ℕ) : Type 0 where
  pub body : HasReadBody s
  pub output : Tree
  pub answer : Answer
  pub typed : IsSubjectTyped s tries body.subject output answer

-- each refusal of a body, with the conditions of those before it; out of memory is free
abbrev pub IsBadSource : BodySource → (tries : ℕ) → ModuleError → Type 0
IsBadSource s tries Memory = Unit {0}
IsBadSource s tries (BadTokens line column e) = HasDefect s.dialect.parts s.header.body e ×
    IsSpot s (defect_place e) line column
IsBadSource s tries (Read line column u) =
    ((ts : List Token) × IsCut s.dialect.parts s.header.body ts ×
    IsUnreadAs s.dialect.parts [] (main_sort s.dialect.language Sub) ts (length s.header.body) u)
    × IsSpot s (unread_place u) line column
IsBadSource s tries (TypeError line column text) =
    (b : HasReadBody s) × (walk None tries (source_events s b.subject) ≡ exhausted)
    × ((blame : Blame) × IsStuckGoal s b.subject blame ×
    IsStuckAt b.tokens b.reading blame s line column ×
    (text ≡ told_goal s.dialect blame.goal blame.reason))
IsBadSource s tries (BudgetSpent n) = (b : HasReadBody s) ×
    (walk None tries (source_events s b.subject) ≡ spent) × (n ≡ tries)
IsBadSource s tries DepthSpent = (b : HasReadBody s) ×
    (walk None tries (source_events s b.subject) ≡ stopped depth_spent)
IsBadSource s tries (TooDeep n) = (b : HasReadBody s) × (depth : ℕ) ×
    (walk None tries (source_events s b.subject) ≡ stopped (passes_depth depth)) ×
    (n ≡ min depth (2 ^ 64 - 1))
IsBadSource s tries (TooBig n) = (b : HasReadBody s) × (size : ℕ) ×
    (walk None tries (source_events s b.subject) ≡ stopped (passes_size size)) ×
    (n ≡ min size (2 ^ 64 - 1))
IsBadSource s tries (RewriteSpent n) = ⊥
IsBadSource s tries RewriteDeep = ⊥
IsBadSource s tries (Print part defect) = ⊥
IsBadSource s tries (Captured word) = ⊥

-- ---- type errors

-- the body has only one reading, and the goal with its term has no derivation, of whatever depth
-- and size
abbrev pub IsUntyped : BodySource → Type 0
IsUntyped s = (b : HasReadBody s) ×
    IsUnderivable (modes_of s.dialect.language.forms) (dialect_rules s.dialect) no_hypotheses
    (goal_with s b.subject) None

-- where the refusal is a type error the source is untyped
abbrev pub IsTypingFinal : BodySource → ModuleError → Type 0
IsTypingFinal s (TypeError line column text) = IsUntyped s
IsTypingFinal s _ = Unit {0}

-- a source is refused for a type error, by rules that can be followed, only where it is untyped
abbrev pub SourceTypeErrorsAreFinal : Type 0
SourceTypeErrorsAreFinal =
    (s : BodySource) (tries line column : ℕ) (text : GoalDefect) →
    AllModed (modes_of s.dialect.language.forms) (dialect_rules s.dialect) →
    IsBadSource s tries (TypeError line column text) → IsUntyped s

-- ---- tries

-- the walk of the source's goal makes so many tries; where the body is not read there is no walk
abbrev pub HasWalked : BodySource → (tries made : ℕ) → Type 0
HasWalked s tries made = ((b : HasReadBody s) × (made
    ≡ tries_of None tries (source_events s b.subject)))
    ⊎ ((HasReadBody s → ⊥) × (made ≡ 0))
