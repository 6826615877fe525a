-- What reading answers: the longest text of a language at a place, or where none can go on.
use Rattle.std.specs.Prelude.{max, ◌≡◌, ℕ, zero, suc, ◌+◌, ◌-◌, ◌*◌, ◌<◌, ◌≤◌, List, [], ◌∷◌, ◌++◌}
use Rattle.std.specs.Prelude.{Bool, true, false, length, take, drop, decimal, if◌then◌else◌, ◌==◌}
use Rattle.std.specs.Str.{IsUtf8}
use Rattle.sx_term.specs.Tree.{Tree, Trees, depth_of, greatest_depth}
use Rattle.sx_term.specs.Core.{core, cores, kind_byte, HasCore, HaveCore, NoDigit}
use Rattle.sx_term.specs.declared.lex_kind.LexKind.{LexKind}

-- some text of the language begins so
abbrev pub IsFront : (List ℕ → Type 0) → List ℕ → Type 0
IsFront L front = (rest : List ℕ) × L (front ++ rest)

-- no text of the language stands at the front of s, and the byte at place is the first that can't
-- stand where it does
pub record IsStuck (L : List ℕ → Type 0) (s : List ℕ) (place : ℕ) : Type 0 where
  pub within : place ≤ length s
  pub front : IsFront L (take place s)
  pub none : (text rest : List ℕ) → L text → s ≡ text ++ rest → ⊥
  pub here : place < length s → IsFront L (take (place + 1) s) → ⊥

-- the longest text of the language at the front of s has this length
pub record IsLongest (L : List ℕ → Type 0) (s : List ℕ) (len : ℕ) : Type 0 where
  pub within : len ≤ length s
  pub text : L (take len s)
  pub longest : (text rest : List ℕ) → L text → s ≡ text ++ rest → length text ≤ len

-- what may follow a term inside so many open nodes
abbrev pub Rest : ℕ → List ℕ → Type 0
Rest zero y = y ≡ []
Rest (suc n) y = (kids : Trees) × HaveCore kids × (z : List ℕ) × (y ≡ cores kids ++ (41 ∷ z)) ×
    Rest n z

-- a term inside so many open nodes, and what follows it
abbrev pub Want : ℕ → List ℕ → Type 0
Want n x = (t : Tree) × HasCore t × (y : List ℕ) × (x ≡ core t ++ y) × Rest n y

-- a text of so many bytes
abbrev pub TextOfLength : ℕ → List ℕ → Type 0
TextOfLength len t = (length t ≡ len) × IsUtf8 t

-- s begins with the longest number from least to most
pub record IsNumber (s : List ℕ) (least most number : ℕ) (rest : List ℕ) : Type 0 where
  pub spelled : s ≡ decimal number ++ rest
  pub lower : least ≤ number
  pub upper : number ≤ most
  pub longest : (d : ℕ) (r : List ℕ) → d < 10 → 0 < number → rest ≡ (48 + d) ∷ r →
      most < 10 * number + d

-- s begins with no digit that can begin a number from least on
abbrev pub IsNoNumber : List ℕ → ℕ → Type 0
IsNoNumber s least = (d : ℕ) (r : List ℕ) → d < 10 → least ≤ d → s ≡ (48 + d) ∷ r → ⊥

-- what may follow inside so many open nodes, with the greatest depth in it and of the nodes that it
-- closes
abbrev pub RestOf : ℕ → ℕ → List ℕ → Type 0
RestOf zero d y = (y ≡ []) × (d ≡ 0)
RestOf (suc n) d y = (kids : Trees) × HaveCore kids × (z : List ℕ) × (y ≡ cores kids ++ (41 ∷ z)) ×
    (e : ℕ) × RestOf n e z × (d ≡ max (greatest_depth kids + suc n) e)

-- a term inside so many open nodes and what follows it, with the greatest depth in them
abbrev pub WantOf : ℕ → ℕ → List ℕ → Type 0
WantOf n d x = (t : Tree) × HasCore t × (y : List ℕ) × (x ≡ core t ++ y) × (e : ℕ) × RestOf n e y ×
    (d ≡ max (n + depth_of t) e)

-- the open nodes behind a term's first part: one more for a node
abbrev pub inside : Bool → ℕ → ℕ
inside true n = suc n
inside false n = n

-- from the place on a term begins, and what may stand behind its first part goes on at next
pub record LeadsTo (s after : List ℕ) (len : ℕ) (opens : Bool) : Type 0 where
  pub stuck : (n k : ℕ) → IsStuck (Rest (inside opens n)) after k → IsStuck (Want n) s (k + len)
  pub longest : (n k : ℕ) → IsLongest (Rest (inside opens n)) after k →
      IsLongest (Want n) s (k + len)
  pub deep : (n d : ℕ) → WantOf n d s → (e : ℕ) × RestOf (inside opens n) e after ×
      (d ≡ max (n + 1) e)

-- `i`, `n` or `s`
abbrev pub IsKindByte : ℕ → Type 0
IsKindByte b = (kind : LexKind) × (b ≡ kind_byte kind)

-- what is to come: a term, or what stands behind one
abbrev pub ToCome : Bool → ℕ → List ℕ → Type 0
ToCome true n = Want n
ToCome false n = Rest n

-- the least second byte of a character of three or four bytes, by its first
abbrev pub low : ℕ → ℕ
low x = if x == 224 then 160 else (if x == 240 then 144 else 128)

-- and the greatest
abbrev pub high : ℕ → ℕ
high x = if x == 237 then 159 else (if x == 244 then 143 else 191)

-- so many more bytes of a character, the first from least to most, and a text of len bytes behind
-- them
abbrev pub Run : ℕ → ℕ → ℕ → ℕ → List ℕ → Type 0
Run len zero least most z = TextOfLength len z
Run len (suc n) least most z = (y : ℕ) × (rest : List ℕ) × (z ≡ y ∷ rest) × (least ≤ y) ×
    (y ≤ most) × Run len n 128 191 rest

-- the bytes so far pass for so many more bytes of a character
pub record RunsTo (s after : List ℕ) (n least most : ℕ) : Type 0 where
  pub stuck : (len k : ℕ) → IsStuck (TextOfLength len) after k → IsStuck (Run len n least most) s
      (k + n)
  pub text : (len : ℕ) (t : List ℕ) → TextOfLength len t → Run len n least most (take n s ++ t)

-- the bytes so far pass for a front of a text of len bytes
pub record PassesText (s after : List ℕ) (len size : ℕ) : Type 0 where
  pub stuck : (k : ℕ) → IsStuck (TextOfLength (len - size)) after k → IsStuck (TextOfLength len) s
      (k + size)
  pub text : (t : List ℕ) → TextOfLength (len - size) t → TextOfLength len (take size s ++ t)

-- the core text of the term stands at the front of s, and no digit behind it
abbrev pub Starts : List ℕ → Tree → Type 0
Starts s t = HasCore t × (rest : List ℕ) × (s ≡ core t ++ rest) × NoDigit rest

-- the core text of the term stands between the two places, and no digit behind it
pub record IsBuilt (bytes : List ℕ) (from : ℕ) (t : Tree) (to : ℕ) : Type 0 where
  pub past : from < to
  pub within : to ≤ length bytes
  pub has_core : HasCore t
  pub text : drop from bytes ≡ core t ++ drop to bytes
  pub no_digit : NoDigit (drop to bytes)
