use Rattle.sx_words.proofs.print_defect.put_print.Goals as goal

pub returns-in-Bytes : goal.returns-in-Bytes
returns-in-Bytes c = rw c.in-Bytes.is c.put_number.ensures

pub returns-in-Tokens : goal.returns-in-Tokens
returns-in-Tokens c = rw c.in-Tokens.is c.put_number-in-Tokens.ensures

pub returns-in-Items : goal.returns-in-Items
returns-in-Items c = rw c.in-Items.is c.put_words.ensures

pub returns-in-Depth : goal.returns-in-Depth
returns-in-Depth c = rw c.in-Depth.is c.put_number-in-Depth.ensures

pub returns-in-Ambiguous : goal.returns-in-Ambiguous
returns-in-Ambiguous c = rw c.in-Ambiguous.is (rw (c.bytes.ensures.value, c.bytes-in-Ambiguous.ensures.value) at c.put.ensures.ok)
