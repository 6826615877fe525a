-- Errors that are passed on.
use Rattle.std.proofs.Common.{ℕ, Result, Ok, Err, ap}
use Rattle.std.specs.Result.{IsErrAnd}
use Rattle.sx_lines.specs.Reading.{◌>>=◌, GivesRead}
use Rattle.sx_interface.specs.declared.error.HeaderError.{HeaderError}
use Rattle.sx_interface.specs.declared.error.HeaderError.TheVariants.{Memory, NotUtf8, Header, Version}
use Rattle.sx_interface.specs.Reading.{RefusesHeader}

-- an error that is passed on
pub passed_on : {X Y : Type 0} (view : X → Y) (read : Result Y ℕ) (r : Result X HeaderError) (P : HeaderError → Type 0) → IsErrAnd r P → ((e : HeaderError) → P e → RefusesHeader e read) → GivesRead view RefusesHeader r read
passed_on view read (Ok x) P h f = absurd h
passed_on view read (Err e) P h f = f e h

-- what refuses one part refuses the whole
pub stops : {A B : Type 0} (next : A → Result B ℕ) (read : Result A ℕ) (e : HeaderError) → RefusesHeader e read → RefusesHeader e (read >>= next)
stops next read Memory h = tt
stops next read (NotUtf8 place) h = absurd h
stops next read (Header n) h = ap (λ (r : Result _ ℕ). r >>= next) h
stops next read (Version n) h = absurd h
