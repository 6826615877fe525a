use Rattle.sx_lexemes.specs.Lexemes.{IsToken}
use Rattle.sx_lexemes.proofs.Terms.{image_lexemes}
use Rattle.sx_lexemes.proofs.laws.images_keep_lexemes.Goals as goal

pub returns : goal.returns
returns c = λ literals table have t h. image_lexemes (IsToken literals) table have t h
