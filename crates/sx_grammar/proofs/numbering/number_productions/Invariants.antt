use Rattle.std.proofs.Common.{◌≡◌, map, take, length}
use Rattle.sx_grammar.specs.Parts.{line, numbered_line}
use Rattle.sx_grammar.specs.Numbered as plain
use Rattle.sx_grammar.specs.Tables.{HaveLiteralsBelow}
use Rattle.sx_grammar.proofs.numbering.number_productions.Given as goal

abbrev pub invariant-loop-production : goal.invariant-loop-production
invariant-loop-production l = record {
  same : map (plain.production l.literals) l.out.items ≡ map (numbered_line l.sorts) (map line (take l.production-index l.productions));
  below : HaveLiteralsBelow (length l.literals) l.out.items;
}
