-- A node that is lowered by the numbers of its terms.
use Rattle.std.proofs.Common.{◌≡◌, ℕ, zero, suc, List, [], ◌∷◌, map, Option, Some, None, subst}
use Rattle.std.specs.Prelude.{slice_get}
use Rattle.sx_term.specs.Tree.{Tree}
use Rattle.sx_rules.specs.Deep.{RuleIsShallow, RulesAreShallow}
use Rattle.sx_rules.specs.Rules.{Rule}
use Rattle.sx_arena.specs.declared.arena.Arena.{Arena}
use Rattle.sx_arena.specs.Arena.{trees, tree_at, IsArena, Extends}
use Rattle.sx_arena.proofs.Growing.{extends-then}
use Rattle.sx_plain.specs.Plain.{Table}
use Rattle.sx_expand.specs.declared.reader.Reader.{Reader}
use Rattle.sx_expand.specs.LoweredNodes.{IsInstanceAt}
use Rattle.sx_expand.specs.OwnSubjects.{IsSubjectMade}
use Rattle.sx_expand.specs.Readers.{terms_in, ReaderGoesOn}
use Rattle.sx_expand.proofs.NumbersPut.{arena-grows}

pub instance-at : (old new : Arena) (numbers : List ℕ) (subjects : List Tree) (o : Option ℕ) → IsSubjectMade old new numbers subjects o → IsInstanceAt (trees new) (map (tree_at (trees old)) numbers) subjects o
instance-at old new numbers subjects None h = h
instance-at old new numbers subjects (Some i) (t, rest, e, held) = (t, rest, e, held.within, held.is)

pub rule-shallow : (rs : List Rule) (i : ℕ) (x : Rule) → RulesAreShallow rs → slice_get rs i ≡ Some x → RuleIsShallow x
rule-shallow [] i x h e = cc
rule-shallow (r ∷ rs) zero x h e = let q : r ≡ x = cc in subst RuleIsShallow q h.0
rule-shallow (r ∷ rs) (suc i) x h e = rule-shallow rs i x h.1 e

-- a reader whose arena grows again
pub goes-on : (table : Table) (old mid : Reader) (arena : Arena) → ReaderGoesOn table old mid → IsArena arena → Extends (terms_in mid) (trees arena) → ReaderGoesOn table old (record { arena = arena; images = mid.images })
goes-on table old mid arena g a x =
    let n = arena-grows table mid arena g.reader a x in
    record { reader = n.reader; extends = extends-then (terms_in old) (terms_in mid) (trees arena) g.extends x }
