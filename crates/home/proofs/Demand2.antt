-- Demand 2 of the definitions, all of it.
use Rattle.convert.specs.Answers.{card_to_json, json_to_card}
use Rattle.convert.proofs.ProvedCases.{cases-hold}
use Rattle.home.specs.Demand2.{Demand2}
use Rattle.home.proofs.WayHome.{card-comes-home, json-comes-home}
use Rattle.home.proofs.PlainCases.{card-or-3, json-or-3, own-normal, same-card-from-normal}
use Rattle.home.proofs.HomeAgain.{every-line-comes-home, lines-come-home-in-turn, same-json-again, home-again}
use Rattle.home.proofs.JsonStands.{card-stands, json-gives-stands, members-stand}
use Rattle.home.proofs.Twelve.{twelve, only-twelve}
use Rattle.home.proofs.MemberHome.{every-member-comes-home}
use Rattle.home.proofs.Respelled.{refolded-same, respelled_same}

pub demand-2 : Demand2 card_to_json json_to_card
demand-2 =
    record {
      cases = cases-hold;
      card-normal = card-comes-home;
      json-normal = json-comes-home;
      card-only-3 = card-or-3;
      json-only-3 = json-or-3;
      every-line = every-line-comes-home;
      json-stands = card-stands;
      in-turn = lines-come-home-in-turn;
      lines-stand = λ stem n lent s b e. json-gives-stands lent s b e stem n;
      members-stand = members-stand;
      every-member = every-member-comes-home;
      same-json = same-json-again;
      home-again = home-again;
      own-normal = own-normal;
      same-card = same-card-from-normal;
      twelve = twelve;
      only-twelve = only-twelve;
      refolded = refolded-same;
      respelled = respelled_same;
    }
