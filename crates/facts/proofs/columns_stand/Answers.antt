use Rattle.std.proofs.Common.{refl}
use Rattle.grammar.specs.Sending.{most}
use Rattle.facts.proofs.Worked.{column}
use Rattle.facts.proofs.columns_stand.Goals as goal

pub returns : goal.returns
unfolding most
returns c =
    record {
      nothing = column _ _ _ tt refl refl;
      empty_descriptions = column _ _ _ tt refl refl;
      itself = column _ _ _ tt refl refl;
      itself_length = refl;
      itself_default = refl;
      part_spared = column _ _ _ tt refl refl;
      unknown_dropped = column _ _ _ tt refl refl;
      lower_of_two = column _ _ _ tt refl refl;
      no_text = column _ _ _ tt refl refl;
      at_the_pole = column _ _ _ tt refl refl;
    }
