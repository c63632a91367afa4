-- The laws, gathered.
use Rattle.chains.specs.Laws.{DrawLaws, GrantLaws}
use Rattle.chains.proofs.Sound.{decides_stands, chosen_none, chosen_some}
use Rattle.chains.proofs.Least.{none_chosen, least_chosen}
use Rattle.chains.proofs.Wording.{chain_words, valid_words, lower_words}
use Rattle.chains.proofs.Standing.{kept_then_whole, chain_stands, same_standing, same_serving, not_own}

pub draw_laws : DrawLaws
draw_laws = record {
  chain_words = chain_words;
  valid_words = valid_words;
  lower_words = lower_words;
  none_serves = λ means st r h o p s. (chosen_none means st r h o p s, none_chosen means st r h o p s);
  least_serves = λ means st r up h o p s c. (chosen_some means st r h o p s c up, least_chosen means st r h o p s up c);
  kept_then_whole = kept_then_whole;
}

pub grant_laws : GrantLaws
grant_laws = record {
  decided = decides_stands;
  in_chain = λ means st own r h p c. chain_stands means st own r h p c;
  same_standing = same_standing;
  same_serving = same_serving;
  not_own = not_own;
}
