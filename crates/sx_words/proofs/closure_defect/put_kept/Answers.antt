use Rattle.sx_words.proofs.closure_defect.put_kept.Goals as goal

pub returns-in-LanguageDigest : goal.returns-in-LanguageDigest
returns-in-LanguageDigest c = rw c.in-LanguageDigest.is c.put_words.ensures

pub returns-in-BaseDigest : goal.returns-in-BaseDigest
returns-in-BaseDigest c = rw c.in-BaseDigest.is c.put_words-in-BaseDigest.ensures

pub returns-in-ImportDigest : goal.returns-in-ImportDigest
returns-in-ImportDigest c = rw c.in-ImportDigest.is c.put_named.ensures

pub returns-in-Signature : goal.returns-in-Signature
returns-in-Signature c = rw c.in-Signature.is c.put_words-in-Signature.ensures
