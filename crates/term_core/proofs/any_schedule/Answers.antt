use Rattle.term_core.proofs.Reaching.{lawful}
use Rattle.term_core.proofs.EachItem.{each_item_does, others_stand, seen_agree, words_stay}
use Rattle.term_core.proofs.Stays.{links_stay, content_stays}
use Rattle.term_core.proofs.Places.{each_step_has_its_place}
use Rattle.term_core.proofs.any_schedule.Goals as goal

pub returns : goal.returns
returns c = record {
  lawful = lawful;
  does = each_item_does;
  others = others_stand;
  agree = seen_agree;
  words = words_stay;
  links = links_stay;
  content = content_stays;
  places = each_step_has_its_place;
}
