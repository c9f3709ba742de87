mod Costs
