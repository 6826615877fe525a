-- What words say that spell the build of a module.
use Rattle.std.proofs.Common.{◌≡◌, ℕ, ◌+◌, ◌≤◌, Bool, true, false, List, [], ◌∷◌, sym, subst, inl}
use Rattle.std.proofs.Common.{inr, arith}
use Rattle.sx_lines.specs.Words.{is_name}
use Rattle.sx_words.specs.Commands.{Given, core, tries, nodes, audit, Settings, AuditWord}
use Rattle.sx_words.specs.Commands.{builds, samples, IsGiven, with_option, with_options}
use Rattle.sx_words.specs.Commands.{nothing_said, MayStand, or_most, meant, SpellsNamed}
use Rattle.sx_words.specs.Commands.{SpellsCommand}

-- no more nodes than 1,000,000 are said
abbrev HasFewNodes : Settings → Type 0
HasFewNodes s = or_most s.nodes ≤ 1000000

option_few : (place : ℕ) (s : Settings) (option : Given) → IsGiven option → HasFewNodes s →
    HasFewNodes (with_option place s option)
unfolding with_option
option_few place s core given few = few
option_few place s (tries n) given few = few
option_few place s (nodes n) given few = given.1
option_few place s (audit kind setting) given few = few

options_few : (verb : _) (place : ℕ) (s : Settings) (options : List Given) →
    MayStand verb place s options → HasFewNodes s → HasFewNodes (with_options place s options)
options_few verb place s [] stand few = few
options_few verb place s (option ∷ options) stand few =
    options_few verb (place + 1) (with_option place s option) options stand.3
    (option_few place s option stand.2 few)

none_few : HasFewNodes nothing_said
none_few = omega arith

-- the name that is built, and the nodes that may be spent
abbrev Says : (name : List ℕ) (size : ℕ) → Type 0
Says name size = (is_name false name ≡ true) × (size ≤ 1000000)

named_build : (words : List (List ℕ)) (of_core : Bool) (name : List ℕ) (most size : ℕ)
    (audits : List AuditWord) → SpellsNamed words (builds of_core name most size audits) →
    Says name size
unfolding meant
named_build words of_core name most size audits h =
    let s = with_options 2 nothing_said h.options in
    let is : builds of_core name most size audits ≡ meant h.verb s h.name = h.is in
    let own : name ≡ h.name = grind (arith, is) in
    let few : size ≡ or_most s.nodes = grind (arith, is) in (
      subst (λ (n : List ℕ). is_name false n ≡ true) (sym own) h.named,
      subst (λ (n : ℕ). n ≤ 1000000) (sym few)
          (options_few h.verb 2 nothing_said h.options h.stand none_few),
    )

no_sample : (number most size : ℕ) (of_core : Bool) (name : List ℕ) (audits : List AuditWord) →
    builds of_core name most size audits ≡ samples number → ⊥
no_sample number most size of_core name audits is = cc

-- a build has a name, and at most 1,000,000 nodes to spend
pub spelled_build : (words : List (List ℕ)) (name : List ℕ) (most size : ℕ)
    (audits : List AuditWord) → SpellsCommand words (builds false name most size audits) →
    (is_name false name ≡ true) × (size ≤ 1000000)
spelled_build words name most size audits (inl h) =
    named_build words false name most size audits h
spelled_build words name most size audits (inr h) =
    absurd (no_sample h.number most size false name audits h.is)
