-- Words that spell a command name each kind of auditor once.
use Rattle.std.proofs.Common.{◌≡◌, ℕ, ◌+◌, Bool, true, false, not, ◌||◌, List, [], ◌∷◌, ◌++◌}
use Rattle.std.proofs.Common.{refl, sym, subst, inl, inr, arith}
use Rattle.std.specs.Str.{bytes_eq}
use Rattle.std.proofs.lemmas.Bool.{and_parts}
use Rattle.std.proofs.lemmas.Slice.Eq.{bytes_eq-Decides}
use Rattle.sx_words.specs.Commands.{Given, core, tries, nodes, audit, Settings, AuditWord, Meant}
use Rattle.sx_words.specs.Commands.{builds, compiles, checks, verifies, samples, SpellsNamed}
use Rattle.sx_words.specs.Commands.{has_kind, is_new, with_option, with_options, nothing_said}
use Rattle.sx_words.specs.Commands.{MayStand, meant, SpellsCommand}
use Rattle.sx_top.specs.Outcome.{audits_of}

-- no word has the kind of a word before it
abbrev AreAlone : List AuditWord → Type 0
AreAlone [] = Unit {0}
AreAlone (a ∷ audits) = (has_kind audits a.kind ≡ false) × AreAlone audits

neither : (a b : Bool) → (a || b) ≡ false → (a ≡ false) × (b ≡ false)
neither false b h = (refl, h)
neither true b h = absurd cc

is_false : (b : Bool) → not b ≡ true → b ≡ false
is_false false h = refl
is_false true h = absurd cc

other_way : (one other : List ℕ) → bytes_eq one other ≡ false → bytes_eq other one ≡ false
other_way one other h = go (bytes_eq other one) refl
  where
    go : (test : Bool) → bytes_eq other one ≡ test → bytes_eq other one ≡ false
    go false is = is
    go true is =
        let same = (bytes_eq-Decides one other).1 (sym ((bytes_eq-Decides other one).0 is)) in
        absurd cc

-- one word more of another kind
one_more : (audits : List AuditWord) (a : AuditWord) (kind : List ℕ) →
    has_kind audits kind ≡ false → bytes_eq a.kind kind ≡ false →
    has_kind (audits ++ a ∷ []) kind ≡ false
one_more [] a kind h n = rw n refl
one_more (b ∷ audits) a kind h n =
    let both = neither (bytes_eq b.kind kind) (has_kind audits kind) h in
    rw both.0 (one_more audits a kind both.1 n)

pushed : (audits : List AuditWord) (a : AuditWord) → AreAlone audits →
    has_kind audits a.kind ≡ false → AreAlone (audits ++ a ∷ [])
pushed [] a alone h = (refl, tt)
pushed (b ∷ audits) a alone h =
    let both = neither (bytes_eq b.kind a.kind) (has_kind audits a.kind) h in (
      one_more audits a b.kind alone.0 (other_way b.kind a.kind both.0),
      pushed audits a alone.1 both.1,
    )

option_alone : (place : ℕ) (s : Settings) (option : Given) → is_new s option ≡ true →
    AreAlone s.audits → AreAlone (with_option place s option).audits
unfolding is_new with_option
option_alone place s core new alone = alone
option_alone place s (tries n) new alone = alone
option_alone place s (nodes n) new alone = alone
option_alone place s (audit kind setting) new alone =
    let both = and_parts (not s.core) (not (has_kind s.audits kind)) new in
    pushed s.audits (record { kind = kind; setting = setting; word = place }) alone
    (is_false (has_kind s.audits kind) both.1)

options_alone : (verb : _) (place : ℕ) (s : Settings) (options : List Given) →
    MayStand verb place s options → AreAlone s.audits →
    AreAlone (with_options place s options).audits
options_alone verb place s [] stand alone = alone
options_alone verb place s (option ∷ options) stand alone =
    options_alone verb (place + 1) (with_option place s option) options stand.3
    (option_alone place s option stand.1 alone)

-- the auditors that options name
said : (words : List (List ℕ)) (command : Meant) → SpellsNamed words command → List AuditWord
said words command h = (with_options 2 nothing_said h.options).audits

builds_said : (words : List (List ℕ)) (of_core : Bool) (name : List ℕ) (most size : ℕ)
    (audits : List AuditWord) →
    (h : SpellsNamed words (builds of_core name most size audits)) →
    audits ≡ said words (builds of_core name most size audits) h
unfolding meant said
builds_said words of_core name most size audits h =
    let is : builds of_core name most size audits
    ≡ meant h.verb (with_options 2 nothing_said h.options) h.name = h.is in
    grind (arith, is)

compiles_said : (words : List (List ℕ)) (name : List ℕ) (most size : ℕ)
    (audits : List AuditWord) → (h : SpellsNamed words (compiles name most size audits)) →
    audits ≡ said words (compiles name most size audits) h
unfolding meant said
compiles_said words name most size audits h =
    let is : compiles name most size audits
    ≡ meant h.verb (with_options 2 nothing_said h.options) h.name = h.is in
    grind (arith, is)

said_alone : (words : List (List ℕ)) (command : Meant) (h : SpellsNamed words command) →
    AreAlone (said words command h)
unfolding said
said_alone words command h = options_alone h.verb 2 nothing_said h.options h.stand tt

named_alone : (words : List (List ℕ)) (command : Meant) → SpellsNamed words command →
    AreAlone (audits_of command)
named_alone words (builds of_core name most size audits) h =
    subst AreAlone (sym (builds_said words of_core name most size audits h))
    (said_alone words (builds of_core name most size audits) h)
named_alone words (compiles name most size audits) h =
    subst AreAlone (sym (compiles_said words name most size audits h))
    (said_alone words (compiles name most size audits) h)
named_alone words (checks name most size) h = tt
named_alone words (verifies of_core name) h = tt
named_alone words (samples number) h = tt

-- so it is of a command that words spell
spelled_alone : (words : List (List ℕ)) (command : Meant) → SpellsCommand words command →
    AreAlone (audits_of command)
spelled_alone words command (inl h) = named_alone words command h
spelled_alone words command (inr h) =
    subst (λ (k : Meant). AreAlone (audits_of k)) (sym h.is) tt

behind_alone : (before : List AuditWord) (a : AuditWord) (behind : List AuditWord) →
    AreAlone (before ++ a ∷ behind) → has_kind behind a.kind ≡ false
behind_alone [] a behind alone = alone.0
behind_alone (b ∷ before) a behind alone = behind_alone before a behind alone.1

-- the words behind one have other kinds
pub kinds_once : (words : List (List ℕ)) (command : Meant) → SpellsCommand words command →
    (before : List AuditWord) (a : AuditWord) (behind : List AuditWord) →
    audits_of command ≡ before ++ a ∷ behind → has_kind behind a.kind ≡ false
kinds_once words command spelled before a behind is =
    behind_alone before a behind (subst AreAlone is (spelled_alone words command spelled))
