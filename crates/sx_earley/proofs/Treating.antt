-- What one item adds.
use Rattle.std.proofs.Common.{◌≡◌, ◌+◌, ℕ, List, Option, length}
use Rattle.sx_grammar.specs.Grammar.{Grammar, Token}
use Rattle.sx_grammar.specs.declared.item.Item.{Item}
use Rattle.sx_earley.specs.Growth.{GoesOnFrom, AllNew}
use Rattle.sx_earley.specs.Chart.{Foresees, FollowsFrom, by_prediction, by_scanning, by_filling}
use Rattle.sx_earley.specs.Chart.{by_waiting, IsJoined, ReadsNext, next_symbol, moved}
use Rattle.sx_earley.specs.Counted.{IsBusy}
use Rattle.sx_earley.proofs.Growth.{only_on, only_more}
use Rattle.sx_earley.specs.Keys.{AreNumbersWithin, IsKeyed}
use Rattle.sx_earley.specs.declared.filed.Filed.{Filed}
use Rattle.sx_earley.proofs.Keying.{keyed_earlier}

module _ (g : Grammar) (tokens : List Token) (filed : Filed) (befores fillings : Option ℕ) (item : Item) (old mid new : List Item) where
  abbrev Next : Item → Type 0
  Next = FollowsFrom g tokens (IsKeyed old filed befores) (IsKeyed old filed fillings) item

  pub after_prediction : AllNew old new (IsBusy g tokens (Foresees g item)) → AllNew old new Next
  after_prediction h = only_more old new (IsBusy g tokens (Foresees g item)) Next (λ i p. by_prediction p.0 p.1) h

  pub after_scan : AllNew old mid Next → AllNew mid new (λ i. ReadsNext tokens (next_symbol g item.head item.dot) item.end × (i ≡ moved item (item.end + 1))) → AllNew old new Next
  after_scan h k = only_on old mid new Next h
      (only_more mid new (λ i. ReadsNext tokens (next_symbol g item.head item.dot) item.end × (i ≡ moved item (item.end + 1))) Next (λ i p. by_scanning p.0 p.1) k)

  pub after_each : GoesOnFrom old mid → AreNumbersWithin filed (length old) → AllNew old mid Next → AllNew mid new (IsJoined g (IsKeyed mid filed befores) (λ x. x ≡ item)) → AllNew old new Next
  after_each grown within h k = only_on old mid new Next h
      (only_more mid new (IsJoined g (IsKeyed mid filed befores) (λ x. x ≡ item)) Next
      (λ i j. by_filling (j.0, j.1, keyed_earlier old mid filed befores j.0 grown within j.2, j.3, j.4, j.5)) k)

  pub after_over : GoesOnFrom old mid → AreNumbersWithin filed (length old) → AllNew old mid Next → AllNew mid new (IsJoined g (λ x. x ≡ item) (IsKeyed mid filed fillings)) → AllNew old new Next
  after_over grown within h k = only_on old mid new Next h
      (only_more mid new (IsJoined g (λ x. x ≡ item) (IsKeyed mid filed fillings)) Next
      (λ i j. by_waiting (j.0, j.1, j.2, keyed_earlier old mid filed fillings j.1 grown within j.3, j.4, j.5)) k)
