mod Put
