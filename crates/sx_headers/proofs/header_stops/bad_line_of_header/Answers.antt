use Rattle.sx_headers.proofs.header_stops.bad_line_of_header.Goals as goal

pub returns : goal.returns
returns c = c.refused_at.ensures
