use Rattle.std.proofs.Common.{ap}
use Rattle.sx_headers.specs.TextStops.{uncut_text}
use Rattle.sx_headers.proofs.StopsTold.{is_told}
use Rattle.sx_headers.proofs.text_stops.uncut_text.Goals as goal

pub returns-in-BadToken : goal.returns-in-BadToken
returns-in-BadToken c =
    is_told _ _ c.at_spot.result
    (ap (uncut_text c.args.file.now c.args.line c.args.column) c.in-BadToken.is) c.at_spot.ensures

pub returns-in-OpenString : goal.returns-in-OpenString
returns-in-OpenString c =
    is_told _ _ c.at_spot-in-OpenString.result
    (ap (uncut_text c.args.file.now c.args.line c.args.column) c.in-OpenString.is)
    c.at_spot-in-OpenString.ensures
