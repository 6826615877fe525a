-- Tokens that have only one reading have one.
use Rattle.std.proofs.Common.{◌≡◌, List}
use Rattle.sx_term.specs.declared.sort.Sort.{Sort}
use Rattle.sx_token.specs.declared.token.Token.{Token}
use Rattle.sx_grammar.specs.Parts.{Parts, numbered}
use Rattle.sx_grammar.specs.Reading.{Reading}
use Rattle.sx_grammar.specs.ReadOne.{ReadAnswer, IsAnswer, only}
use Rattle.sx_grammar.proofs.Answering.{answers_agree}
use Rattle.sx_earley.specs.Tokens.{Stems, plain_tokens}
use Rattle.sx_earley.specs.Completed.{sort_number}

module _ (p : Parts) (stems : Stems) (sort : Sort) (ts : List Token) where
  abbrev Answers : ReadAnswer → Type 0
  Answers a = IsAnswer (numbered p) (plain_tokens stems ts) (sort_number sort) a

  pub reading_one : (r q : Reading) → Answers (only r) → Answers (only q) → r ≡ q
  reading_one r q h k =
      let e : only r ≡ only q = answers_agree (numbered p) (plain_tokens stems ts) (sort_number sort)
      (only r) (only q) h k in
      cc
