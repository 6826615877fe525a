-- A list of entries with its ends, as plain data.
use Rattle.std.specs.Prelude.{ℕ, List}
use Rattle.sx_rules.specs.Derivations.{Proof, Proofs}
use Rattle.sx_rules.specs.EntryView.{entries}
use Rattle.sx_rules.specs.Orders.{Entry}
use Rattle.sx_rewrite.specs.Accepted.{Accepted, Signature}
use Rattle.sx_rewrite.specs.AcceptedView.{accepted, signature}
use Rattle.sx_expand.specs.declared.listing.Listing.{Listing}
use Rattle.sx_expand.specs.Standing.{IsDerivationListed, AreListed, ListedEach, AreEnds}

-- the accepted set and the entries of a listing
abbrev pub set_in : Listing → Accepted
set_in l = accepted l.set.now

abbrev pub entries_in : Listing → List Entry
entries_in l = entries l.list.now

-- the signature of the set's forms
abbrev pub signature_in : Listing → Signature
signature_in l = signature l.set.now

-- its ends are those of its entries
abbrev pub HasEnds : Listing → Type 0
HasEnds l = AreEnds (set_in l) (entries_in l) l.ends.now

-- the derivation stands in it from the number on
abbrev pub StandsIn : Listing → ℕ → Proof → Type 0
StandsIn l i p = IsDerivationListed (set_in l) (entries_in l) i p

-- so do the derivations, one after another
abbrev pub StandInRow : Listing → ℕ → Proofs → Type 0
StandInRow l i ps = AreListed (set_in l) (entries_in l) i ps

-- so does each from its own number on
abbrev pub StandInEach : Listing → List ℕ → Proofs → Type 0
StandInEach l is ps = ListedEach (set_in l) (entries_in l) is ps
