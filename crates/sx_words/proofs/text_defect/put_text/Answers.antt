use Rattle.sx_words.proofs.text_defect.put_text.Goals as goal

pub returns-in-BadToken : goal.returns-in-BadToken
returns-in-BadToken c = rw c.in-BadToken.is c.put_words.ensures

pub returns-in-OpenString : goal.returns-in-OpenString
returns-in-OpenString c = rw c.in-OpenString.is c.put_words-in-OpenString.ensures

pub returns-in-NoReading : goal.returns-in-NoReading
returns-in-NoReading c = rw c.in-NoReading.is c.put_words-in-NoReading.ensures

pub returns-in-TooManyTokens : goal.returns-in-TooManyTokens
returns-in-TooManyTokens c = rw c.in-TooManyTokens.is c.put_words-in-TooManyTokens.ensures

pub returns-in-TooHard : goal.returns-in-TooHard
returns-in-TooHard c = rw c.in-TooHard.is c.put_words-in-TooHard.ensures

pub returns-in-TooDeep : goal.returns-in-TooDeep
returns-in-TooDeep c = rw c.in-TooDeep.is c.put_number.ensures

pub returns-in-TooBig : goal.returns-in-TooBig
returns-in-TooBig c = rw c.in-TooBig.is c.put_number-in-TooBig.ensures

pub returns-in-Ambiguous : goal.returns-in-Ambiguous
returns-in-Ambiguous c = rw c.in-Ambiguous.is (rw (c.bytes.ensures.value, c.bytes-in-Ambiguous.ensures.value) at c.put.ensures.ok)
