use Rattle.sx_headers.proofs.text_stops.at_spot.Goals as goal

pub returns : goal.returns
returns c = c.refused_at.ensures
